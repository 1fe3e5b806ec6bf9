-- Where the paths directly in a directory are in a list that rises by path.
use Rattle.std.specs.Prelude.{List, filter}
use Rattle.bx_tree.specs.Below.{is_directly_in}
use Rattle.bx_tree.specs.Paths.{Atoms}
use Rattle.bx_tree.specs.Ranges.{first_below}

-- of the first paths of a list, up to one that does not lie below the directory, those directly in it
abbrev pub first_directly_in : Atoms → List Atoms → List Atoms
first_directly_in dir paths = filter (λ path. is_directly_in path dir) (first_below dir paths)
