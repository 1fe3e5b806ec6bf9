-- What a call on entries answers of what is told to be held.
use Rattle.std.specs.Prelude.{◌≡◌, ℕ, List, Option, Some, ⊤}
use Rattle.bx_io.specs.Holdings.{Holdings}
use Rattle.memo_format.specs.Entries.{IsEntry, read_entry_text}
use Rattle.memo_format.specs.StoreNames.{HoldsEntry}
use Rattle.memo_format.specs.declared.entry.Entry.{Entry}
use Rattle.content_store.specs.declared.entries.FetchedEntry.{FetchedEntry}
use Rattle.content_store.specs.declared.entries.FetchedEntry.TheVariants as fetched

-- The text of the entry is held under the entry's own strong digest, and that is this one.
pub record IsHeld (S : Holdings) (strong : List ℕ) (e : Entry) : Type 0 where
  pub held : HoldsEntry S e
  pub strong_is : e.strong ≡ strong

-- The entry that is held under the digest, or that none is. The other answers say nothing of it.
abbrev pub IsFetchedEntry : Holdings → List ℕ → FetchedEntry → Type 0
IsFetchedEntry S strong (fetched.Found e) = IsHeld S strong e
IsFetchedEntry S strong fetched.NotWell = (e : Entry) → IsHeld S strong e → ⊥
IsFetchedEntry S strong fetched.Fault = ⊤
IsFetchedEntry S strong fetched.Memory = ⊤

-- That of what is told to be held.
abbrev pub FetchesEntry : Option Holdings → List ℕ → FetchedEntry → Type 0
FetchesEntry told strong answer = (S : Holdings) → told ≡ Some S → IsFetchedEntry S strong answer

-- what was found is an entry of this digest
abbrev pub HasStrong : List ℕ → FetchedEntry → Type 0
HasStrong strong (fetched.Found e) = IsEntry e × (e.strong ≡ strong)
HasStrong strong fetched.NotWell = ⊤
HasStrong strong fetched.Fault = ⊤
HasStrong strong fetched.Memory = ⊤

-- a text that was held under a digest is found just where it is that of an entry of this digest
abbrev pub ChecksEntry : List ℕ → List ℕ → FetchedEntry → Type 0
ChecksEntry text strong (fetched.Found e) =
    IsEntry e × ((read_entry_text text ≡ Some e) × (e.strong ≡ strong))
ChecksEntry text strong fetched.NotWell =
    (e : Entry) → read_entry_text text ≡ Some e → e.strong ≡ strong → ⊥
ChecksEntry text strong fetched.Fault = ⊥
ChecksEntry text strong fetched.Memory = ⊤
