use Rattle.std.proofs.Common.{◌≡◌, ◌++◌, drop}
use Rattle.bx_tree.specs.Trees.{paths_of}
use Rattle.bx_tree.specs.Views.{files_of}
use Rattle.bx_tree.specs.Ranges.{first_below}
use Rattle.dscript_sdk_calls.proofs.sources.share_first_below.Given as goal

abbrev pub invariant-files : goal.invariant-files
invariant-files l =
    l.paths.items ++ first_below l.dir (paths_of (files_of (drop l.file-index l.files)))
    ≡ first_below l.dir (paths_of (files_of l.files))
