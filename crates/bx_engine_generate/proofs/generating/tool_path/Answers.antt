use Rattle.bx_engine_generate.proofs.NamedPaths.{named_tool}
use Rattle.bx_engine_generate.proofs.generating.tool_path.Goals as goal

pub unreachable-requires : goal.unreachable-requires
unreachable-requires c = c.in-Err-BadPath.ensures c.in-Err-BadPath.field-0-is (_, named_tool)
