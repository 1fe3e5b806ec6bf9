use Rattle.std.proofs.Common.{◌≡◌, List, Some, subst, sym}
use Rattle.std.specs.Prelude.{◌↔◌, Contains, IfSome, IsSome, slice_get}
use Rattle.std.specs.List.Sorted.{IsStrictlySortedBy}
use Rattle.bx_tree.specs.Paths.{Atoms, path_cmp}
use Rattle.bx_tree_paths.proofs.Found.{found_place, found_there}
use Rattle.bx_tree_paths.proofs.Rising.{paths_rise}
use Rattle.bx_tree_paths.proofs.sorted_paths.SortedPaths.find.Goals as goal

pub find_place-requires : goal.find_place-requires
find_place-requires g c = paths_rise c.paths.result.now (subst (IsStrictlySortedBy path_cmp) (sym c.paths.ensures.paths) c.paths.ensures.sorted.rising)

pub returns-clause-place : goal.returns-clause-place
returns-clause-place g c =
    subst (λ (ps : List Atoms). IfSome c.find_place.result (λ place. slice_get ps place ≡ Some c.args.path.now)) c.paths.ensures.paths
    (found_place c.paths.result.now c.args.path.now c.find_place.result c.find_place.ensures.place)

pub returns-clause-there : goal.returns-clause-there
returns-clause-there g c =
    subst (λ (ps : List Atoms). IsSome c.find_place.result ↔ Contains ps c.args.path.now) c.paths.ensures.paths
    (found_there c.paths.result.now c.args.path.now c.find_place.result c.find_place.ensures.place)
