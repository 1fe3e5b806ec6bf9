use Rattle.std.proofs.Common.{◌≡◌, ◌+◌, ◌≤◌, take}
use Rattle.std.specs.Prelude.{IsSome}
use Rattle.two_phase.specs.Held.{AreHeld}
use Rattle.retire.specs.Saving.{PutsAllBut, PutsEach}
use Rattle.retire.proofs.saving.save_all.Given as goal

abbrev pub invariant-records : goal.invariant-records
invariant-records g l = record {
  all : PutsAllBut (g.K.Keeper.known l.fn.keeper) (take l.ran-index l.records) (g.K.Keeper.known l.keeper) l.faults;
  each : PutsEach (g.K.Keeper.known l.fn.keeper) (take l.ran-index l.records) (g.K.Keeper.known l.keeper);
  held : AreHeld (g.K.Keeper.known l.keeper).held l.held;
  bound : g.K.Keeper.bound l.keeper ≡ g.K.Keeper.bound l.fn.keeper;
  rose : IsSome (g.K.Keeper.bound l.fn.keeper) → g.K.Keeper.faults l.fn.keeper + l.faults ≤ g.K.Keeper.faults l.keeper;
  later : g.K.Keeper.faults l.fn.keeper ≤ g.K.Keeper.faults l.keeper;
  few : l.faults ≤ l.ran-index;
  seen : l.faults ≡ 0 → g.K.Keeper.faults l.keeper ≡ g.K.Keeper.faults l.fn.keeper;
}
