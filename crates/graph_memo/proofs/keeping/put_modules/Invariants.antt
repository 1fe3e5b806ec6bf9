use Rattle.std.proofs.Common.{map, take}
use Rattle.content_store.specs.Contents.{blob_put}
use Rattle.dscript_names.specs.ProjectFiles.{paths_of_modules}
use Rattle.dscript_program.specs.Workspaces.{modules_data}
use Rattle.graph_texts.specs.Keys.{text_at}
use Rattle.two_phase.specs.Applying.{AppliesAll}
use Rattle.two_phase.specs.Calls.{KeeperCall}
use Rattle.two_phase.specs.Held.{AreHeld}
use Rattle.graph_memo.proofs.keeping.put_modules.Given as goal

abbrev pub invariant-modules : goal.invariant-modules
invariant-modules g l = record {
  made : AppliesAll (g.K.Keeper.known l.fn.keeper) (map blob_put (map (text_at l.tree) (paths_of_modules (modules_data (take l.module-index l.modules)))))
      (g.K.Keeper.known l.keeper);
  held : AreHeld (g.K.Keeper.known l.keeper).held l.held;
  keeps : KeeperCall (g.K.Keeper.bound l.fn.keeper) (g.K.Keeper.bound l.keeper) (g.K.Keeper.faults l.fn.keeper) (g.K.Keeper.faults l.keeper) ⊥;
}
