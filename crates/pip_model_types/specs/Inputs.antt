-- Files that pips take, and the order of lists of them.
use Rattle.std.specs.Prelude.{List, map}
use Rattle.std.specs.List.Sorted.{IsStrictlySortedBy}
use Rattle.bx_tree.specs.Paths.{path_cmp}
use Rattle.bx_tree.specs.declared.file_input.FileInput.{FileInput}
use Rattle.bx_tree.specs.FileInputs.{input_path}

-- the files are sorted by path, and no two have one path
abbrev pub RiseByPath : List FileInput → Type 0
RiseByPath files = IsStrictlySortedBy path_cmp (map input_path files)
