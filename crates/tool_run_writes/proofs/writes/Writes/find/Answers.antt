use Rattle.std.proofs.Common.{◌∙◌, ap}
use Rattle.bx_tree.specs.Trees.{Files, file_at}
use Rattle.tool_run_writes.proofs.Found.{found}
use Rattle.tool_run_writes.proofs.writes.Writes.find.Goals as goal

pub returns : goal.returns
returns c =
    c.get.ensures.value ∙ found c.self.inside.files.entries c.args.path.now
    ∙ ap (λ (fs : Files). file_at fs c.args.path.now) c.self.view_is
