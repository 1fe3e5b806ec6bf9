use Rattle.std.proofs.Common.{ap, ◌∙◌, subst, sym, ◌<◌, [], length}
use Rattle.std.specs.Prelude.{slice_index_or}
use Rattle.bx_tree.specs.Trees.{paths_of}
use Rattle.bx_tree.proofs.FileSearch.{path_at}
use Rattle.dscript_names_workspace.proofs.FilePaths.{length-tree}
use Rattle.dscript_names_workspace.proofs.paths.path_at.Goals as goal

pub returns : goal.returns
returns c =
    let files = c.files.result.now in
    sym (path_at files c.args.position c.index-files-position.result []
    (subst (λ n. c.args.position < n) (sym (ap length c.files.ensures.files) ∙ length-tree files) c.requires))
    ∙ ap (λ fs. slice_index_or (paths_of fs) c.args.position []) c.files.ensures.files
