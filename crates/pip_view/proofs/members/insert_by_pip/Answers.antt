use Rattle.std.proofs.Common.{ℕ, nat_le, Bor, ap, arith, ◌∙◌}
use Rattle.std.specs.List.{position_or_len}
use Rattle.pip_model_types.specs.Dirs.{dir_pip}
use Rattle.pip_model_types.specs.declared.dir_inputs.DirInput.{DirInput}
use Rattle.pip_view.proofs.ByPip.{place_within, put_by_pip}
use Rattle.pip_view.proofs.members.insert_by_pip.Goals as goal

pub insert-requires : goal.insert-requires
insert-requires c =
    let comes_after = λ (other : Bor DirInput). nat_le c.pip.result (dir_pip other.now) in
    let within = place_within comes_after c.as_slice.result.now c.place_by_pip-place.result c.place_by_pip-place.ensures in
    omega (arith, within, c.as_slice.ensures.len)

pub returns : goal.returns
returns c =
    let comes_after = λ (pip : ℕ) (other : Bor DirInput). nat_le pip (dir_pip other.now) in
    put_by_pip c.args.dir c.args.sorted.now.items c.insert.new.self.items c.place_by_pip-place.result
    (c.place_by_pip-place.ensures
    ∙ ap (λ (pip : ℕ). position_or_len (comes_after pip) c.as_slice.result.now) c.pip.ensures
    ∙ ap (position_or_len (comes_after (dir_pip c.args.dir.now))) c.as_slice.ensures.value)
    c.in_ok-insert.ensures.items
