use Rattle.std.proofs.Common.{◌∙◌}
use Rattle.bx_engine.proofs.Worked.{workload_unwritten, workload_written, written_not_memory}
use Rattle.bx_engine.proofs.workload.write_workload.Goals as goal

pub returns-in-Ok-clause-written : goal.returns-in-Ok-clause-written
returns-in-Ok-clause-written g c =
    workload_written c.args.seed c.args.pips c.write_text.result _ c.as_slice.result.now (c.as_slice.ensures.value ∙ c.in-Ok.ensures) c.write_text.ensures.status
    c.write_text.ensures.written c.write_text.ensures.begun

pub returns-in-Ok-clause-silent : goal.returns-in-Ok-clause-silent
returns-in-Ok-clause-silent g c memory = absurd (written_not_memory c.write_text.result c.write_text.ensures.status memory)

pub returns-in-Err-clause-written : goal.returns-in-Err-clause-written
returns-in-Err-clause-written g c = workload_unwritten c.args.seed c.args.pips _
