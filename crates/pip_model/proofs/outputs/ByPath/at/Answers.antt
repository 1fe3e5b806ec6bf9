use Rattle.std.proofs.Common.{ℕ, ap, sym, ◌∙◌}
use Rattle.std.specs.declared.alloc.Global.{Global}
use Rattle.std.specs.declared.vec.Vec.{Vec}
use Rattle.pip_model.specs.Outputs.{Numbered, found_in}
use Rattle.pip_model.proofs.PathNumbers.{at_number, none_at}
use Rattle.pip_model.proofs.outputs.ByPath.at.Goals as goal

pub returns-in-Some : goal.returns-in-Some
returns-in-Some c =
    let old = c.self.inside in
    c.as_slice.ensures.value ∙ ap (λ (v : Vec ℕ Global). v.items) c.index.ensures
    ∙ sym (at_number c.args.text.now old.paths old.pips.items c.in-Some.id.0 c.index.result.now c.len.ensures.numbered c.self.invariant
    c.in-Some.ensures)
    ∙ ap (λ (b : Numbered). found_in b c.args.text.now) c.self.view_is

pub returns-in-None : goal.returns-in-None
returns-in-None c =
    let old = c.self.inside in
    sym (none_at c.args.text.now old.paths old.pips.items c.in-None.ensures) ∙ ap (λ (b : Numbered). found_in b c.args.text.now) c.self.view_is
