-- Sets of digests.
use Rattle.std.specs.Prelude.{◌≡◌, ◌||◌, ℕ, Bool, is_some, List}
use Rattle.std.specs.List.{list_any}
use Rattle.std.specs.Str.{bytes_eq}
use Rattle.bx_tree.specs.TextTables.{at_text}
use Rattle.cache_care.specs.declared.digests.DigestSet.{DigestSet}

-- whether the set has a digest
abbrev pub has_digest : DigestSet → List ℕ → Bool
has_digest set digest = is_some (at_text set.digests digest)

-- The set has just the digests of the list.
abbrev pub IsSetOf : DigestSet → List (List ℕ) → Type 0
IsSetOf set digests = (q : List ℕ) → has_digest set q ≡ list_any (λ digest. bytes_eq digest q) digests

-- The second set has the digests of the first, and these.
abbrev pub AddsAll : DigestSet → DigestSet → List (List ℕ) → Type 0
AddsAll before now digests =
    (q : List ℕ) → has_digest now q ≡ (list_any (λ digest. bytes_eq digest q) digests || has_digest before q)
