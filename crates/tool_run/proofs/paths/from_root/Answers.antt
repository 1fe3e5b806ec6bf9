use Rattle.tool_run.proofs.FromRoot.{named_from_root}
use Rattle.tool_run.proofs.paths.from_root.Goals as goal

pub returns-in-Ok : goal.returns-in-Ok
returns-in-Ok c = named_from_root c.args.text.now c.in-Ok.path c.in-Ok.ensures
