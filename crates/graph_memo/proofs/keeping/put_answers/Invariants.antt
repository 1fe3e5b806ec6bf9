use Rattle.std.proofs.Common.{◌≡◌, map, take}
use Rattle.content_store.specs.Contents.{blob_put}
use Rattle.dscript_sdk_calls.specs.Sources.{tree_answers}
use Rattle.graph_memo_meaning.specs.Contents.{line_for, listing_texts}
use Rattle.two_phase.specs.Applying.{AppliesAll}
use Rattle.two_phase.specs.Calls.{KeeperCall}
use Rattle.two_phase.specs.Held.{AreHeld}
use Rattle.graph_memo.proofs.keeping.put_answers.Given as goal

abbrev pub invariant-asks : goal.invariant-asks
invariant-asks g l = record {
  made : AppliesAll (g.K.Keeper.known l.fn.keeper) (map blob_put (take l.ask-index (listing_texts (tree_answers l.tree) l.asks))) (g.K.Keeper.known l.keeper);
  lines : l.lines.items ≡ map (line_for (tree_answers l.tree)) (take l.ask-index l.asks);
  held : AreHeld (g.K.Keeper.known l.keeper).held l.held;
  keeps : KeeperCall (g.K.Keeper.bound l.fn.keeper) (g.K.Keeper.bound l.keeper) (g.K.Keeper.faults l.fn.keeper) (g.K.Keeper.faults l.keeper) ⊥;
}
