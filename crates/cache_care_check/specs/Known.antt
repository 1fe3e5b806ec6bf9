-- Contents of a store that were asked for.
use Rattle.std.specs.Prelude.{◌≡◌, ◌↔◌, ℕ, Bool, IsTrue, List, Option, Some, None, Result, Ok, Err}
use Rattle.bx_io.specs.Holdings.{Holdings}
use Rattle.bx_tree.specs.TextTables.{at_text}
use Rattle.content_store.specs.Contents.{IsContent}
use Rattle.content_store.specs.declared.content.Fetched.{Fetched}
use Rattle.content_store.specs.declared.content.Fetched.TheVariants as fetched
use Rattle.two_phase.specs.Finding.{IsOne}
use Rattle.cache_care_check.specs.declared.fault.CareFault.{CareFault}
use Rattle.cache_care_check.specs.declared.fault.CareFault.TheVariants as faults
use Rattle.cache_care_check.specs.declared.known.KnownContents.{KnownContents}

-- what is noted of a digest: its content, or that none is held
abbrev pub noted_at : KnownContents → List ℕ → Option (Option (List ℕ))
noted_at known digest = at_text known.contents digest

-- What is noted of each digest is what is told to be held.
abbrev pub AreRight : Option Holdings → KnownContents → Type 0
AreRight told known =
    (S : Holdings) → told ≡ Some S → (digest : List ℕ) (found : Option (List ℕ)) → noted_at known digest ≡ Some found
    → IsOne S (λ S x. IsContent S digest x) found

-- The answer says whether what is told to be held has the property.
abbrev pub TellsWhether : Option Holdings → (Holdings → Type 0) → Bool → Type 0
TellsWhether told P answer = (S : Holdings) → told ≡ Some S → (IsTrue answer ↔ P S)

-- what was fetched, as an answer
abbrev pub Matches : Fetched → Result (Option (List ℕ)) CareFault → Type 0
Matches (fetched.Found blob) answer = answer ≡ Ok (Some blob)
Matches fetched.NotWell answer = answer ≡ Ok None
Matches fetched.Fault answer = answer ≡ Err faults.Failed
Matches fetched.Memory answer = answer ≡ Err faults.Memory
