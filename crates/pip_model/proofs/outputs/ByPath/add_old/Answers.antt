use Rattle.std.proofs.Common.{ℕ, ◌<◌, ◌++◌, ◌∷◌, [], ap, arith, get_or, length, ◌∙◌}
use Rattle.std.specs.declared.alloc.Global.{Global}
use Rattle.std.specs.declared.vec.Vec.{Vec}
use Rattle.pip_model.specs.Outputs.{Numbered, found_in, number_at}
use Rattle.pip_model.proofs.PathNumbers.{number_added}
use Rattle.pip_model.proofs.outputs.ByPath.add_old.Goals as goal

pub index_mut-requires : goal.index_mut-requires
index_mut-requires c = omega (arith, c.requires, ap (λ (b : Numbered). length b.paths) c.self.view_is, c.self.invariant)

pub returns : goal.returns
returns c = λ text.
    let old = c.self.inside in
    let less : c.args.id.0 < length c.self.inside.paths =
    omega (arith, c.requires, ap (λ (b : Numbered). length b.paths) c.self.view_is) in
    number_added text old.paths old.pips.items c.args.id.0 c.args.number c.push.new.self c.index_mut.result.now c.len.ensures.numbered
    c.self.invariant less
    (c.in_ok-push.ensures.items ∙ ap (λ (v : Vec ℕ Global). v.items ++ c.args.number ∷ []) c.index_mut.ensures.value)
    ∙ ap (λ (b : Numbered). found_in b text ++ number_at c.args.number text (get_or b.paths c.args.id.0 [])) c.self.view_is
