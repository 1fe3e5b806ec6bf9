use Rattle.std.proofs.Common.{sym}
use Rattle.std.proofs.lemmas.List.{drop-drop}
use Rattle.tool_run.proofs.content.later.Goals as goal

pub returns-then-count-tail : goal.returns-then-count-tail
returns-then-count-tail c = sym (drop-drop c.args.count c.args.start c.args.bytes.now)
