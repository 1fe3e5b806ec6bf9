use Rattle.std.proofs.Common.{length, nat_le, refl, Bor, rules, tests, ◌∙◌}
use Rattle.std.proofs.lemmas.Iterator.{YieldsList-from_slice}
use Rattle.std.proofs.lemmas.Iterator.Search.{position_from_yields_List}
use Rattle.pip_model_types.specs.Dirs.{dir_pip}
use Rattle.pip_model_types.specs.declared.dir_inputs.DirInput.{DirInput}
use Rattle.pip_view.proofs.ByPip.{place_or_end, place_within}
use Rattle.pip_view.proofs.members.place_by_pip.Goals as goal

pub returns : goal.returns
returns c =
    let test = λ (d : Bor DirInput). nat_le c.args.pip (dir_pip d.now) in
    c.unwrap_or.ensures
    ∙ place_or_end c.position.result _ (length c.args.sorted.now) (length c.args.sorted.now)
    (position_from_yields_List test _ _ c.position.result c.position.ensures.ran (YieldsList-from_slice c.args.sorted.now cc) (λ x b q k. search (rules, tests)))
    (place_within test c.args.sorted.now _ refl) refl
