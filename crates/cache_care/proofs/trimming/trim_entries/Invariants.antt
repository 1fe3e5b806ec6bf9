use Rattle.std.proofs.Common.{◌≡◌, ℕ, codes, filter, flat_map, map, not, take, Some}
use Rattle.std.specs.Prelude.{string_bytes}
use Rattle.bx_io.specs.Holdings.{Drop, Holdings, Keeps, held_in}
use Rattle.prints.specs.Lines.{begins}
use Rattle.memo_format.specs.declared.selector.Selector.{Selector}
use Rattle.two_phase.specs.Calls.{KeeperCall}
use Rattle.cache_care_check.specs.Known.{AreRight}
use Rattle.cache_care.specs.Digests.{IsSetOf}
use Rattle.cache_care.specs.Naming.{named_at}
use Rattle.cache_care.specs.Planning.{planned_change}
use Rattle.cache_care.specs.Trimming.{AreTrims, is_selected, remaining}
use Rattle.cache_care.proofs.trimming.trim_entries.Given as goal

abbrev pub invariant-names : goal.invariant-names
invariant-names g l = record {
  changes : (S : Holdings) (keep : ℕ) → held_in (g.K.Keeper.known l.keeper) ≡ Some S → IsSetOf l.selected (map (λ (s : Selector). s.strong) (remaining S keep))
      → map planned_change l.trim.changes.items
      ≡ map Drop (filter (λ n. not (is_selected S keep n)) (filter (begins (codes "e/")) (map string_bytes (take l.name-index l.names))));
  named : (S : Holdings) (keep : ℕ) → held_in (g.K.Keeper.known l.keeper) ≡ Some S → IsSetOf l.selected (map (λ (s : Selector). s.strong) (remaining S keep))
      → IsSetOf l.trim.digests
      (flat_map (named_at S) (filter (is_selected S keep) (filter (begins (codes "e/")) (map string_bytes (take l.name-index l.names)))));
  trims : AreTrims (filter (begins (codes "e/")) (map string_bytes (take l.name-index l.names))) (map planned_change l.trim.changes.items);
  right : AreRight (held_in (g.K.Keeper.known l.keeper)) l.contents;
  known : Keeps (g.K.Keeper.known l.fn.keeper) (g.K.Keeper.known l.keeper);
  keeps : KeeperCall (g.K.Keeper.bound l.fn.keeper) (g.K.Keeper.bound l.keeper) (g.K.Keeper.faults l.fn.keeper) (g.K.Keeper.faults l.keeper) ⊥;
}
