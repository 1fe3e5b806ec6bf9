use Rattle.std.proofs.Common.{◌≡◌, ap, arith, length, replicate, subst, sym, ◌∙◌}
use Rattle.std.specs.Prelude.{All}
use Rattle.std.proofs.lemmas.Bool.{false≢true}
use Rattle.std.proofs.lemmas.List.{length-replicate}
use Rattle.sched_board.specs.Board.{IsFree}
use Rattle.sched_board_slots.specs.declared.held.Held.TheVariants as held
use Rattle.bx_engine.proofs.Crews.{value_has}
use Rattle.bx_engine.proofs.crew.finish_if_fit.Goals as goal

pub returns-then-not-all_fit-clause-fits : goal.returns-then-not-all_fit-clause-fits
returns-then-not-all_fit-clause-fits g c =
    λ all size.
    absurd (false≢true (sym c.if-not-all_fit.true ∙ c.all_fit.ensures.1 (subst (All (IsFree c.args.board)) (sym c.as_slice.ensures.value) all)))

pub returns-then-not-all_fit-clause-number : goal.returns-then-not-all_fit-clause-number
returns-then-not-all_fit-clause-number g c =
    value_has c.empty.result (λ f. f.slots.items ≡ replicate c.args.pips held.Empty) (λ f. length f.slots.items ≡ c.args.pips)
    (λ f h. ap length h ∙ length-replicate c.args.pips held.Empty) c.empty.ensures.slots

pub returns-then-number-pips-clause-number : goal.returns-then-number-pips-clause-number
returns-then-number-pips-clause-number g c =
    value_has c.empty-then-number-pips.result (λ f. f.slots.items ≡ replicate c.args.pips held.Empty) (λ f. length f.slots.items ≡ c.args.pips)
    (λ f h. ap length h ∙ length-replicate c.args.pips held.Empty) c.empty-then-number-pips.ensures.slots

pub returns-then-not-all_fit-clause-unfit : goal.returns-then-not-all_fit-clause-unfit
returns-then-not-all_fit-clause-unfit g c = λ none. c.empty.ensures.slots

pub returns-then-number-pips-clause-fits : goal.returns-then-number-pips-clause-fits
returns-then-number-pips-clause-fits g c =
    λ all size.
    let same = ap length c.finish-finished.ensures.slots in
    absurd (c.if-number-pips.true (omega (arith, same, size, c.len-number.ensures, c.finish-finished.result.slots.ok.0)))

pub returns-clause-fits : goal.returns-clause-fits
returns-clause-fits g c = λ all size. c.finish-finished.ensures.slots

pub returns-clause-unfit : goal.returns-clause-unfit
returns-clause-unfit g c =
    λ none.
    let all : All (IsFree c.args.board) c.args.shares.items =
    subst (All (IsFree c.args.board)) c.as_slice.ensures.value (c.all_fit.ensures.0 c.if-not-all_fit.false) in
    let same = ap length c.finish-finished.ensures.slots in
    absurd (none all (omega (arith, same, c.if-number-pips.false, c.len-number.ensures, c.finish-finished.result.slots.ok.0)))
