use Rattle.std.proofs.Common.{◌≡◌, List, Some, subst, sym}
use Rattle.std.specs.Prelude.{◌↔◌, Contains, IfSome, IsSome, slice_get}
use Rattle.std.specs.List.Sorted.{IsStrictlySortedBy}
use Rattle.bx_tree.specs.Paths.{Atoms, path_cmp}
use Rattle.bx_tree_paths.proofs.Found.{found_place, found_there}
use Rattle.bx_tree_paths.proofs.Rising.{paths_rise}
use Rattle.bx_tree_paths.proofs.sorted_paths.SortedPaths.place_of.Goals as goal

pub place_of-requires : goal.place_of-requires
place_of-requires c = paths_rise c.paths.result.now (subst (IsStrictlySortedBy path_cmp) (sym c.paths.ensures.paths) c.paths.ensures.sorted.rising)

pub returns-clause-place : goal.returns-clause-place
returns-clause-place c =
    subst (λ (ps : List Atoms). IfSome c.place_of.result (λ place. slice_get ps place ≡ Some c.args.path.now)) c.paths.ensures.paths
    (found_place c.paths.result.now c.args.path.now c.place_of.result c.place_of.ensures)

pub returns-clause-there : goal.returns-clause-there
returns-clause-there c =
    subst (λ (ps : List Atoms). IsSome c.place_of.result ↔ Contains ps c.args.path.now) c.paths.ensures.paths
    (found_there c.paths.result.now c.args.path.now c.place_of.result c.place_of.ensures)
