use Rattle.std.proofs.Common.{sym, ap, filter, ◌∙◌}
use Rattle.bx_tree.specs.Below.{is_below}
use Rattle.bx_tree.specs.Trees.{paths_of}
use Rattle.pip_model_types.proofs.FilesAt.{paths-zip}
use Rattle.pip_model_types.proofs.sources.Sources.paths_below.Goals as goal

pub returns : goal.returns
returns c =
    c.paths_below.ensures
    ∙ ap (filter (λ p. is_below p c.args.dir.now)) (sym (paths-zip c.self.inside.paths c.self.inside.blobs.items c.self.invariant.size) ∙ ap paths_of c.self.view_is)
