-- The texts of paths in arguments.
use Rattle.bx_tree.specs.Paths.{Atoms, path_text}
use Rattle.std.specs.Prelude.{List, codes, ℕ, ◌++◌}

-- a path as an argument
abbrev pub path_argument : Atoms → List ℕ
path_argument path = codes "/" ++ path_text path
