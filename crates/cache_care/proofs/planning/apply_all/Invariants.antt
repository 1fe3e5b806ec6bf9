use Rattle.std.proofs.Common.{map, take}
use Rattle.bx_io.specs.Holdings.{Makes}
use Rattle.two_phase.specs.Calls.{KeeperCall}
use Rattle.cache_care.specs.Planning.{planned_change}
use Rattle.cache_care.proofs.planning.apply_all.Given as goal

abbrev pub invariant-plan : goal.invariant-plan
invariant-plan g l = record {
  made : Makes (g.K.Keeper.known l.fn.keeper) (map planned_change (take l.planned-index l.plan)) (g.K.Keeper.known l.keeper);
  keeps : KeeperCall (g.K.Keeper.bound l.fn.keeper) (g.K.Keeper.bound l.keeper) (g.K.Keeper.faults l.fn.keeper) (g.K.Keeper.faults l.keeper) ⊥;
}
