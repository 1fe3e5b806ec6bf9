-- What is asked of source files by their paths.
use Rattle.std.proofs.Common.{◌≡◌, ◌||◌, [], ◌∷◌, refl, ap}
use Rattle.std.specs.List.{cons_option, filter_map, list_any}
use Rattle.bx_tree.specs.Below.{is_below, next_atom}
use Rattle.bx_tree.specs.Paths.{Atoms}
use Rattle.bx_tree.specs.Trees.{Files, paths_of}
use Rattle.tool_run_writes.specs.Writes.{has_below, own_names}

-- ## Source files

pub below_sources : (dir : Atoms) (files : Files) → list_any (λ p. is_below p dir) (paths_of files) ≡ has_below files dir
below_sources dir [] = refl
below_sources dir (f ∷ fs) = ap (λ t. is_below f.0 dir || t) (below_sources dir fs)

pub names_sources : (dir : Atoms) (files : Files) → filter_map (next_atom dir) (paths_of files) ≡ own_names files dir
names_sources dir [] = refl
names_sources dir (f ∷ fs) = ap (cons_option (next_atom dir f.0)) (names_sources dir fs)
