use Rattle.std.proofs.Common.{◌∙◌}
use Rattle.bx_engine.proofs.Checked.{checked_not_memory, memory_not_gone}
use Rattle.bx_engine.proofs.WrittenPieces.{appends_slice_or_fails}
use Rattle.bx_engine.proofs.care.tell_list.Goals as goal

pub returns-in-Ok-clause-noted : goal.returns-in-Ok-clause-noted
returns-in-Ok-clause-noted g c gone =
    appends_slice_or_fails c.write_all.result _ _ _ _ _ _ (c.as_slice.ensures.value ∙ c.in-Ok.ensures) c.write_all.ensures.whole c.write_all.ensures.prefix
    c.write_all.ensures.cause

pub returns-in-Ok-clause-no_notes : goal.returns-in-Ok-clause-no_notes
returns-in-Ok-clause-no_notes g c memory = absurd (checked_not_memory c.status_of_check.result c.args.list.now c.status_of_check.ensures memory)

pub returns-in-Err-clause-noted : goal.returns-in-Err-clause-noted
returns-in-Err-clause-noted g c gone = absurd (memory_not_gone gone)
