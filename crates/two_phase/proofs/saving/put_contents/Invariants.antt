use Rattle.std.proofs.Common.{map, take}
use Rattle.content_store.specs.Contents.{blob_put}
use Rattle.two_phase.specs.Applying.{AppliesAll}
use Rattle.two_phase.specs.Calls.{KeeperCall}
use Rattle.two_phase.specs.Held.{AreHeld}
use Rattle.two_phase.proofs.saving.put_contents.Given as goal

abbrev pub invariant-contents : goal.invariant-contents
invariant-contents g l = record {
  made : AppliesAll (g.K.Keeper.known l.fn.keeper) (map blob_put (take l.blob-index l.contents)) (g.K.Keeper.known l.keeper);
  held : AreHeld (g.K.Keeper.known l.keeper).held l.held;
  keeps : KeeperCall (g.K.Keeper.bound l.fn.keeper) (g.K.Keeper.bound l.keeper) (g.K.Keeper.faults l.fn.keeper) (g.K.Keeper.faults l.keeper) ⊥;
}
