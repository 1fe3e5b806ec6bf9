use Rattle.bx_engine.proofs.ReportPath.{named_report}
use Rattle.bx_engine.proofs.output.report_path.Goals as goal

pub unreachable-requires : goal.unreachable-requires
unreachable-requires c = c.in-Err-BadPath.ensures c.in-Err-BadPath.field-0-is (_, named_report)
