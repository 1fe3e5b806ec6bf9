use Rattle.std.proofs.Common.{map, take}
use Rattle.violations.specs.Slots.{slot_files}
use Rattle.one_thread.specs.Shared.{KeepsShared, all_shared}
use Rattle.one_thread.proofs.GoingThrough.{IsSoFar}
use Rattle.one_thread.proofs.build.build_all.Given as goal

abbrev pub invariant-pips : goal.invariant-pips
invariant-pips g l =
    IsSoFar l.fn.plan.pips l.fn.sources l.fn.plan.tool_budget l.number l.verdicts.items l.slots.items
    × KeepsShared l.shared.files l.shared.dirs (all_shared (take l.number l.fn.plan.pips) (map slot_files l.slots.items))
