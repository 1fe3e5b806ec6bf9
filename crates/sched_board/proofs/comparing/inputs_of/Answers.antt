use Rattle.std.proofs.Common.{◌≡◌, ℕ, ◌<◌, List, length, map, get_or, take, ap, sym, ◌∙◌, subst, arith}
use Rattle.std.specs.List.{All}
use Rattle.std.proofs.lemmas.List.{take_all}
use Rattle.bx_tree.specs.Trees.{Files}
use Rattle.pip_view_inputs.specs.Results.{ByPip}
use Rattle.sched_board.proofs.GivenFiles.{all_given, below_next, pair_of}
use Rattle.sched_board.proofs.comparing.inputs_of.Goals as goal

pub push-requires : goal.push-requires
push-requires c =
    let ins : List ℕ = c.inputs-input-items.result.now in
    let k : ℕ = c.inputs.input-index in
    subst (λ (pairs : ByPip). All (λ (pair : ℕ × Files). pair.0 < get_or ins k 0) pairs) (sym c.inputs.invariant)
    (below_next c.args.slots.now ins k c.inputs-input-items.ensures.inputs.rising c.inputs-test.true)

pub returns : goal.returns
returns c =
    let ins : List ℕ = c.inputs-input-items.result.now in
    c.inputs.invariant
    ∙ ap (map (pair_of c.args.slots.now)) (take_all c.inputs.input-index ins (omega (arith, c.inputs-test.false)))
    ∙ all_given c.args.plan.now c.args.slots.now c.args.pip ins c.requires.there c.requires.size c.inputs-input-items.ensures.inputs c.inputs-input-items.ensures.smaller
