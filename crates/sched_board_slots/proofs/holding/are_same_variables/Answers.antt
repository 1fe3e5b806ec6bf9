use Rattle.std.proofs.Common.{◌≡◌, ◌<◌, false, true, length, sym, ◌∙◌, arith}
use Rattle.std.proofs.lemmas.Bool.{false≢true}
use Rattle.sched_board_slots.proofs.SamePlaces.{same_here, same_more}
use Rattle.sched_board_slots.proofs.holding.are_same_variables.Goals as goal

pub returns-then-not-is_same_variable : goal.returns-then-not-is_same_variable
returns-then-not-is_same_variable c =
    let other : c.pairs.place < length c.args.b.now = omega (arith, c.pairs-test.true, c.if-a-b.false) in (
      λ (yes : false ≡ true). absurd cc,
      λ same. absurd (false≢true (sym c.if-not-is_same_variable.true ∙ c.is_same_variable.ensures.1
          (same_here c.args.a.now c.args.b.now c.pairs.place c.index-a-place.result c.index-b-place.result other c.index-a-place.is c.index-b-place.is same))),
    )

pub pairs-preserved : goal.pairs-preserved
pairs-preserved c =
    same_more c.args.a.now c.args.b.now c.pairs.place c.index-a-place.result c.index-b-place.result
    c.pairs-test.true (omega (arith, c.pairs-test.true, c.if-a-b.false)) c.index-a-place.is c.index-b-place.is
    c.pairs.invariant (c.is_same_variable.ensures.0 c.if-not-is_same_variable.false)
