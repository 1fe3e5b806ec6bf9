use Rattle.std.proofs.Common.{◌≡◌, ◌<◌, false, true, length, sym, ◌∙◌, arith}
use Rattle.std.proofs.lemmas.Bool.{false≢true}
use Rattle.sched_board_slots.proofs.SamePlaces.{same_here, same_more}
use Rattle.sched_board_slots.proofs.holding.are_same_texts.Goals as goal

pub returns-then-not-is_same_text : goal.returns-then-not-is_same_text
returns-then-not-is_same_text c =
    let other : c.texts.place < length c.args.b.now = omega (arith, c.texts-test.true, c.if-a-b.false) in (
      λ (yes : false ≡ true). absurd cc,
      λ same. absurd (false≢true (sym c.if-not-is_same_text.true ∙ c.is_same_text.ensures.1
          (same_here c.args.a.now c.args.b.now c.texts.place c.index-a-place.result c.index-b-place.result other c.index-a-place.is c.index-b-place.is same))),
    )

pub texts-preserved : goal.texts-preserved
texts-preserved c =
    same_more c.args.a.now c.args.b.now c.texts.place c.index-a-place.result c.index-b-place.result
    c.texts-test.true (omega (arith, c.texts-test.true, c.if-a-b.false)) c.index-a-place.is c.index-b-place.is
    c.texts.invariant (c.is_same_text.ensures.0 c.if-not-is_same_text.false)
