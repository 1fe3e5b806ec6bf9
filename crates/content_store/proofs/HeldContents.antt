-- What is held under the name of a content, and what a look under it answers.
use Rattle.std.proofs.Common.{◌≡◌, ℕ, List, Option, Some, Vec, Global, sym, ap, ◌∙◌, subst}
use Rattle.std.specs.FinMap.{get}
use Rattle.std.proofs.lemmas.Option.{same_Some}
use Rattle.sha2.specs.Sha256.{sha256}
use Rattle.bx_io.specs.Answers.{Finds}
use Rattle.bx_io.specs.Holdings.{Holdings}
use Rattle.bx_io.specs.declared.keeper.Got.TheVariants as got
use Rattle.memo_format.specs.StoreNames.{at_blob}
use Rattle.content_store.specs.declared.content.Fetched.{Fetched}
use Rattle.content_store.specs.declared.content.Fetched.TheVariants as fetched
use Rattle.content_store.specs.Contents.{Checks, Fetches, IsContent, IsFetched}
use Rattle.content_store.proofs.HeldEntries.{none_and_some}

held_bytes : (S : Holdings) (digest bytes : List ℕ) (answer : Fetched) → get S (at_blob digest) ≡ Some bytes
    → Checks bytes digest answer → IsFetched S digest answer
held_bytes S digest bytes (fetched.Found blob) h check =
    let is : sha256 blob ≡ digest = ap sha256 check.0 ∙ check.1 in
    record { held = ap (λ (d : List ℕ). get S (at_blob d)) is ∙ h ∙ ap Some (sym check.0); digest_is = is }
held_bytes S digest bytes fetched.NotWell h check =
    λ x there.
    let same : x ≡ bytes = same_Some x bytes (sym there.held ∙ ap (λ (d : List ℕ). get S (at_blob d)) there.digest_is ∙ h) in
    check (ap sha256 (sym same) ∙ there.digest_is)
held_bytes S digest bytes fetched.Fault h check = tt
held_bytes S digest bytes fetched.Memory h check = tt

-- bytes that are found answer what their check answers
pub held_content : (held : Option Holdings) (digest name : List ℕ) (bytes : Vec ℕ Global) (answer : Fetched)
    → name ≡ at_blob digest → Finds held name (got.Found bytes) → Checks bytes.items digest answer
    → Fetches held digest answer
held_content held digest name bytes answer named h check = λ S is.
    held_bytes S digest bytes.items answer (subst (λ (n : List ℕ). get S n ≡ Some bytes.items) named (h S is)) check

-- where nothing is found, no content is held
pub no_content : (held : Option Holdings) (digest name : List ℕ) → name ≡ at_blob digest → Finds held name got.None
    → Fetches held digest fetched.NotWell
no_content held digest name named h = λ S is x there.
    none_and_some (get S name) x (h S is) (ap (get S) (named ∙ ap at_blob (sym there.digest_is)) ∙ there.held)
