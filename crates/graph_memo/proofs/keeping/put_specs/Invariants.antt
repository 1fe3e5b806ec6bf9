use Rattle.std.proofs.Common.{map, take}
use Rattle.content_store.specs.Contents.{blob_put}
use Rattle.graph_texts.specs.Keys.{text_at}
use Rattle.two_phase.specs.Applying.{AppliesAll}
use Rattle.two_phase.specs.Calls.{KeeperCall}
use Rattle.two_phase.specs.Held.{AreHeld}
use Rattle.graph_memo.proofs.keeping.put_specs.Given as goal

abbrev pub invariant-paths : goal.invariant-paths
invariant-paths g l = record {
  made : AppliesAll (g.K.Keeper.known l.fn.keeper) (map blob_put (take l.path-index (map (text_at l.tree) l.paths))) (g.K.Keeper.known l.keeper);
  held : AreHeld (g.K.Keeper.known l.keeper).held l.held;
  keeps : KeeperCall (g.K.Keeper.bound l.fn.keeper) (g.K.Keeper.bound l.keeper) (g.K.Keeper.faults l.fn.keeper) (g.K.Keeper.faults l.keeper) ⊥;
}
