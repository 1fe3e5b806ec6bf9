use Rattle.std.proofs.Common.{◌≡◌, ℕ, List, ◌++◌, codes, filter, map, not, take}
use Rattle.std.specs.Prelude.{string_bytes}
use Rattle.std.specs.List.{AllByRecursion, list_any}
use Rattle.std.specs.Str.{bytes_eq}
use Rattle.bx_digest.specs.Digests.{IsDigest}
use Rattle.bx_io.specs.Holdings.{Drop}
use Rattle.prints.specs.Lines.{begins}
use Rattle.memo_format.specs.StoreNames.{at_blob}
use Rattle.cache_care.specs.Digests.{IsSetOf}
use Rattle.cache_care.specs.Planning.{planned_change}
use Rattle.cache_care.specs.Trimming.{AreTrims}
use Rattle.cache_care.proofs.trimming.drop_contents.Given as goal

abbrev pub invariant-names : goal.invariant-names
invariant-names l = record {
  changes : (digests : List (List ℕ)) → IsSetOf l.named_digests digests → AllByRecursion IsDigest digests
      → map planned_change l.plan.items
      ≡ map planned_change l.fn.plan.items
      ++ map Drop (filter (λ n. not (list_any (λ d. bytes_eq (at_blob d) n) digests))
      (filter (begins (codes "b/")) (map string_bytes (take l.name-index l.names))));
  trims : (before : List (List ℕ)) → AreTrims before (map planned_change l.fn.plan.items)
      → AreTrims (before ++ filter (begins (codes "b/")) (map string_bytes (take l.name-index l.names))) (map planned_change l.plan.items);
}
