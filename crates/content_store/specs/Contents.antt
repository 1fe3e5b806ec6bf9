-- What a call on contents answers of what is told to be held.
use Rattle.std.specs.Prelude.{◌≡◌, ℕ, List, Option, Some, ⊤}
use Rattle.sha2.specs.Sha256.{sha256}
use Rattle.bx_io.specs.Holdings.{Change, Holdings, Put}
use Rattle.memo_format.specs.StoreNames.{HoldsBlob, at_blob}
use Rattle.content_store.specs.declared.content.Fetched.{Fetched}
use Rattle.content_store.specs.declared.content.Fetched.TheVariants as fetched

-- the change that puts a content under its digest
abbrev pub blob_put : List ℕ → Change
blob_put content = Put (at_blob (sha256 content)) content

-- The bytes are held under their own digest, and that is this one.
pub record IsContent (S : Holdings) (digest bytes : List ℕ) : Type 0 where
  pub held : HoldsBlob S bytes
  pub digest_is : sha256 bytes ≡ digest

-- The content that is held under the digest, or that none is. The other answers say nothing of it.
abbrev pub IsFetched : Holdings → List ℕ → Fetched → Type 0
IsFetched S digest (fetched.Found blob) = IsContent S digest blob
IsFetched S digest fetched.NotWell = (bytes : List ℕ) → IsContent S digest bytes → ⊥
IsFetched S digest fetched.Fault = ⊤
IsFetched S digest fetched.Memory = ⊤

-- That of what is told to be held.
abbrev pub Fetches : Option Holdings → List ℕ → Fetched → Type 0
Fetches told digest answer = (S : Holdings) → told ≡ Some S → IsFetched S digest answer

-- what was found has this digest
abbrev pub HasDigest : List ℕ → Fetched → Type 0
HasDigest digest (fetched.Found blob) = sha256 blob ≡ digest
HasDigest digest fetched.NotWell = ⊤
HasDigest digest fetched.Fault = ⊤
HasDigest digest fetched.Memory = ⊤

-- bytes that were held under a digest are found just where it is theirs
abbrev pub Checks : List ℕ → List ℕ → Fetched → Type 0
Checks bytes digest (fetched.Found blob) = (blob ≡ bytes) × (sha256 bytes ≡ digest)
Checks bytes digest fetched.NotWell = sha256 bytes ≡ digest → ⊥
Checks bytes digest fetched.Fault = ⊥
Checks bytes digest fetched.Memory = ⊤
