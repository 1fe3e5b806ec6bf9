-- Files that a pip made, as contracts see them.
use Rattle.std.specs.Prelude.{List, map}
use Rattle.std.specs.List.Sorted.{IsStrictlySortedBy}
use Rattle.bx_tree.specs.Paths.{path_cmp}
use Rattle.bx_tree.specs.Trees.{Files, paths_of}
use Rattle.pip_model_types.specs.declared.made.MadeFile.{MadeFile}

-- each file's path and bytes
abbrev pub made_files : List MadeFile → Files
made_files = map (λ (f : MadeFile). (f.path, f.blob))

-- files that rise by path, so that no two have one path
abbrev pub RisingFiles : Files → Type 0
RisingFiles files = IsStrictlySortedBy path_cmp (paths_of files)
