use Rattle.std.proofs.Common.{sym, ap, ◌∙◌}
use Rattle.bx_tree.specs.Trees.{paths_of}
use Rattle.pip_model_types.proofs.FilesAt.{paths-zip}
use Rattle.pip_model_types.proofs.sources.Sources.paths.Goals as goal

pub returns-clause-paths : goal.returns-clause-paths
returns-clause-paths c = c.paths.ensures.paths ∙ sym (paths-zip c.self.inside.paths c.self.inside.blobs.items c.self.invariant.size) ∙ ap paths_of c.self.view_is
