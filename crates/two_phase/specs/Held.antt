-- Contents that a store is known to hold.
use Rattle.std.specs.Prelude.{◌≡◌, ℕ, List, Option, Some, take}
use Rattle.std.specs.BTreeMap.{get_by}
use Rattle.std.specs.Int.{from_be_bytes, w64}
use Rattle.std.specs.Ordering.{nat_cmp}
use Rattle.sha2.specs.Sha256.{sha256}
use Rattle.bx_io.specs.Holdings.{Holdings}
use Rattle.memo_format.specs.StoreNames.{HoldsBlob}
use Rattle.two_phase.specs.declared.held.HeldContents.{HeldContents}

-- the number at which a content with this digest is noted: its first eight bytes
abbrev pub key_of : List ℕ → ℕ
key_of digest = from_be_bytes w64 (take 8 digest)

-- the content that is noted at a number
abbrev pub noted_at : HeldContents → ℕ → Option (List ℕ)
noted_at h key = get_by (nat_cmp key) h.contents

-- The content is held under its digest, and noted at the number of that.
pub record IsNoted (S : Holdings) (key : ℕ) (content : List ℕ) : Type 0 where
  pub held : HoldsBlob S content
  pub key_is : key_of (sha256 content) ≡ key

-- Each content that is noted is told to be held under its digest, of which it is noted at the number.
abbrev pub AreHeld : Option Holdings → HeldContents → Type 0
AreHeld told h =
    (S : Holdings) → told ≡ Some S → (key : ℕ) (content : List ℕ) → noted_at h key ≡ Some content → IsNoted S key content

-- At the number this content is noted, or none; at all others what was noted before.
pub record Tracks (before now : HeldContents) (key : ℕ) (content : List ℕ) : Type 0 where
  pub here : (other : List ℕ) → noted_at now key ≡ Some other → other ≡ content
  pub others : (q : ℕ) → (key ≡ q → ⊥) → noted_at now q ≡ noted_at before q
