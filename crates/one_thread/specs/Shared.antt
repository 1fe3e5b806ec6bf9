-- The files that processes made in directories which they share.
use Rattle.std.specs.Prelude.{◌≡◌, Bool, List, [], ◌∷◌, ◌++◌}
use Rattle.std.specs.BTreeSet.{BTreeSet, contains}
use Rattle.std.specs.List.{list_any}
use Rattle.bx_tree.specs.Paths.{Atoms, path_cmp, same_path}
use Rattle.bx_tree.specs.Trees.{Files}
use Rattle.bx_tree.specs.Below.{is_below}
use Rattle.pip_model_types.specs.declared.pip.Pip.{Pip}
use Rattle.violations.specs.DoubleWrites.{is_clash, shared_paths}
use Rattle.pip_model_types.specs.Kinds.{outdirs_of}

-- the paths of all files that these pips made in directories which they share, one pip after the other
abbrev pub all_shared : List Pip → List Files → List Atoms
all_shared [] made = []
all_shared (pip ∷ pips) [] = []
all_shared (pip ∷ pips) (files ∷ made) = shared_paths (outdirs_of pip.kind) files ++ all_shared pips made

-- whether one of the paths clashes with this one
abbrev pub any_clash : List Atoms → Atoms → Bool
any_clash paths path = list_any (is_clash path) paths

-- the sets have exactly the paths, and the directories in which these lie
pub record KeepsShared (files dirs : BTreeSet Atoms) (paths : List Atoms) : Type 0 where
  pub files_are : (q : Atoms) → contains path_cmp files q ≡ list_any (λ p. same_path p q) paths
  pub dirs_are : (q : Atoms) → contains path_cmp dirs q ≡ list_any (λ p. is_below p q) paths
