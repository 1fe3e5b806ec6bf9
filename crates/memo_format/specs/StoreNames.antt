-- The names of a store, and which of them hold what their names say.
use Rattle.std.specs.Prelude.{◌≡◌, ℕ, List, ◌++◌, codes, Some}
use Rattle.std.specs.FinMap.{get}
use Rattle.hex.specs.Hex.{encode_lower}
use Rattle.sha2.specs.Sha256.{sha256}
use Rattle.bx_digest.specs.Digests.{IsDigest}
use Rattle.bx_io.specs.Holdings.{Holdings}
use Rattle.memo_format.specs.Entries.{read_entry_text}
use Rattle.memo_format.specs.Selectors.{read_selectors_text}
use Rattle.memo_format.specs.declared.entry.Entry.{Entry}
use Rattle.memo_format.specs.declared.selector.Selector.{Selector}

-- where a content is held, by its digest
abbrev pub at_blob : List ℕ → List ℕ
at_blob digest = codes "b/" ++ encode_lower digest

-- where the selectors of a weak text are held, by its digest
abbrev pub at_list : List ℕ → List ℕ
at_list digest = codes "w/" ++ encode_lower digest

-- where the entry of a strong text is held, by its digest
abbrev pub at_entry : List ℕ → List ℕ
at_entry digest = codes "e/" ++ encode_lower digest

-- the content is held under its own digest
abbrev pub HoldsBlob : Holdings → List ℕ → Type 0
HoldsBlob S content = get S (at_blob (sha256 content)) ≡ Some content

-- the selectors are held for the weak text with this digest
abbrev pub HoldsList : Holdings → List ℕ → List Selector → Type 0
HoldsList S weak list =
    (bytes : List ℕ) × (get S (at_list weak) ≡ Some bytes) × (read_selectors_text bytes ≡ Some list)

-- the entry is held under its own strong digest
abbrev pub HoldsEntry : Holdings → Entry → Type 0
HoldsEntry S e =
    (bytes : List ℕ) × (get S (at_entry e.strong) ≡ Some bytes) × (read_entry_text bytes ≡ Some e)

-- A name holds what it says: a content of that digest, selectors, or the entry of that strong digest.
pub data IsWellFormedName (S : Holdings) (name : List ℕ) : Type 0 where
  blob : (content : List ℕ) → HoldsBlob S content → name ≡ at_blob (sha256 content) → IsWellFormedName S name
  selectors : (weak : List ℕ) (list : List Selector) → IsDigest weak → HoldsList S weak list
      → name ≡ at_list weak → IsWellFormedName S name
  entry : (e : Entry) → HoldsEntry S e → name ≡ at_entry e.strong → IsWellFormedName S name
