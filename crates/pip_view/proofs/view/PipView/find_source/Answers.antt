use Rattle.std.proofs.Common.{ap, ◌∙◌}
use Rattle.bx_tree.specs.Trees.{file_at}
use Rattle.pip_view.specs.Seen.{ViewData}
use Rattle.pip_view.proofs.view.PipView.find_source.Goals as goal

pub returns-clause-found : goal.returns-clause-found
returns-clause-found c = c.find_near.ensures.value ∙ ap (λ (v : ViewData). file_at v.tree c.args.path.now) c.self.view_is
