use Rattle.std.proofs.Common.{◌≡◌, codes, filter, flat_map, map, take, Some}
use Rattle.std.specs.Prelude.{string_bytes}
use Rattle.bx_io.specs.Holdings.{Holdings, Keeps, held_in}
use Rattle.prints.specs.Lines.{begins}
use Rattle.memo_format.specs.declared.selector.Selector.{Selector}
use Rattle.two_phase.specs.Calls.{KeeperCall}
use Rattle.cache_care.specs.Digests.{IsSetOf}
use Rattle.cache_care.specs.Planning.{planned_change}
use Rattle.cache_care.specs.Trimming.{AreTrims, cut_at, left_at}
use Rattle.cache_care.proofs.trimming.trim_lists.Given as goal

abbrev pub invariant-names : goal.invariant-names
invariant-names g l = record {
  changes : (S : Holdings) → held_in (g.K.Keeper.known l.keeper) ≡ Some S
      → map planned_change l.trim.changes.items ≡ flat_map (cut_at S l.keep) (filter (begins (codes "w/")) (map string_bytes (take l.name-index l.names)));
  selected : (S : Holdings) → held_in (g.K.Keeper.known l.keeper) ≡ Some S
      → IsSetOf l.trim.digests
      (map (λ (s : Selector). s.strong) (flat_map (left_at S l.keep) (filter (begins (codes "w/")) (map string_bytes (take l.name-index l.names)))));
  trims : AreTrims (filter (begins (codes "w/")) (map string_bytes (take l.name-index l.names))) (map planned_change l.trim.changes.items);
  known : Keeps (g.K.Keeper.known l.fn.keeper) (g.K.Keeper.known l.keeper);
  keeps : KeeperCall (g.K.Keeper.bound l.fn.keeper) (g.K.Keeper.bound l.keeper) (g.K.Keeper.faults l.fn.keeper) (g.K.Keeper.faults l.keeper) ⊥;
}
