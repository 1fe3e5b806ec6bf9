use Rattle.std.proofs.Common.{ap, sym, ◌∙◌}
use Rattle.bx_engine_front.proofs.OnePlan.{OneFailure}
use Rattle.bx_engine.specs.Ending.{status_of, output_of}
use Rattle.bx_engine.proofs.OneEnding.{endless_or_ending, one_ending, one_text}
use Rattle.bx_engine.proofs.laws.one_end.Goals as goal

pub returns-clause-ending : goal.returns-clause-ending
returns-clause-ending c =
    let one : OneFailure = record { rule = c.one_answer.ensures.rule; file = c.one_answer.ensures.file; never = c.one_answer.ensures.never_both } in
    one_ending one

pub returns-clause-status : goal.returns-clause-status
returns-clause-status c limits input r s a b h k =
    let one : OneFailure = record { rule = c.one_answer.ensures.rule; file = c.one_answer.ensures.file; never = c.one_answer.ensures.never_both } in
    h.status_is ∙ ap status_of (one_ending one limits input h.ending k.ending h.ends k.ends) ∙ sym k.status_is

pub returns-clause-bytes : goal.returns-clause-bytes
returns-clause-bytes c limits input r s a b h k =
    let one : OneFailure = record { rule = c.one_answer.ensures.rule; file = c.one_answer.ensures.file; never = c.one_answer.ensures.never_both } in
    h.bytes_are ∙ ap output_of (one_ending one limits input h.ending k.ending h.ends k.ends) ∙ sym k.bytes_are

pub returns-clause-notes : goal.returns-clause-notes
returns-clause-notes c =
    let one : OneFailure = record { rule = c.one_answer.ensures.rule; file = c.one_answer.ensures.file; never = c.one_answer.ensures.never_both } in
    one_text one

pub returns-clause-endless : goal.returns-clause-endless
returns-clause-endless c = endless_or_ending
