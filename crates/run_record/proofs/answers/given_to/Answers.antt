use Rattle.std.proofs.Common.{◌∙◌, ap, length, take}
use Rattle.std.proofs.lemmas.List.{length-map}
use Rattle.run_record.specs.Answered.{given_in, recorded}
use Rattle.run_record.proofs.Recorded.{absent_first, given_more}
use Rattle.run_record.proofs.answers.given_to.Goals as goal

pub accesses-init : goal.accesses-init
accesses-init c = c.in_ok-answers.ensures ∙ absent_first c.args.asks.now

pub put-requires-clause-number : goal.put-requires-clause-number
put-requires-clause-number c =
    ap length c.accesses.invariant ∙ length-map c.args.asks.now (given_in (take c.accesses.access-index c.args.accesses.now))

pub accesses-preserved : goal.accesses-preserved
accesses-preserved c =
    c.in_ok-guess.ensures (recorded (take c.accesses.access-index c.args.accesses.now)) c.accesses.invariant
    ∙ given_more c.args.asks.now c.args.accesses.now c.accesses.access-index c.access-item.result c.accesses-test.true c.access-item.is
