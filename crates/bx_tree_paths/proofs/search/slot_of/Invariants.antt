use Rattle.std.proofs.Common.{◌-◌, ◌++◌, length}
use Rattle.bx_tree_paths.proofs.Counting.{Taken}
use Rattle.bx_tree_paths.proofs.Halving.{IsHalved}
use Rattle.bx_tree_paths.proofs.search.slot_of.Given as goal

abbrev pub invariant-halves : goal.invariant-halves
invariant-halves g l = record {
  halved : IsHalved g.T.HasPath.path_in (l.first ++ l.second) l.items l.low l.high l.is_there;
  taken : Taken l.initial.steps l.steps (length l.items) (l.high - l.low);
}

abbrev pub decreases-halves : goal.decreases-halves
decreases-halves g l = l.high - l.low
