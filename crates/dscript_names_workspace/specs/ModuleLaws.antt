-- What holds of the modules of every workspace.
use Rattle.std.specs.Prelude.{◌≡◌, true, false, List, [], ◌∷◌, map, ⊤}
use Rattle.std.specs.List.{AllByRecursion, IsDistinct}
use Rattle.std.specs.Str.{bytes_eq}
use Rattle.bx_tree.specs.Paths.{Atoms, has_path}
use Rattle.bx_tree.specs.Trees.{Files}
use Rattle.dscript_names_workspace.specs.Paths.{in_tree, is_specification}
use Rattle.dscript_program.specs.Workspaces.{ModuleData, sdk_name}

-- names differ, and none is that of the module that is always there
pub record HaveOwnNames (modules : List ModuleData) : Type 0 where
  pub distinct : IsDistinct bytes_eq (map (λ m. m.name) modules)
  pub not_sdk : AllByRecursion (λ m. bytes_eq sdk_name m.name ≡ false) modules

-- files of the tree, in its order and each once, that end in `.dsc`
pub record AreSpecifications (files : Files) (paths : List Atoms) : Type 0 where
  pub in_order : in_tree files paths ≡ paths
  pub named : AllByRecursion (λ path. is_specification path ≡ true) paths

-- no file of the one module is a file of the other
abbrev pub ShareNoFile : ModuleData → ModuleData → Type 0
ShareNoFile m n = (path : Atoms) → has_path m.files path ≡ true → has_path n.files path ≡ false

-- no file is in two of the modules
abbrev pub ShareNone : List ModuleData → Type 0
ShareNone [] = ⊤
ShareNone (m ∷ ms) = AllByRecursion (ShareNoFile m) ms × ShareNone ms
