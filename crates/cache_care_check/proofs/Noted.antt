-- What is noted of digests, and what asking for a content answers.
use Rattle.std.proofs.Common.{◌≡◌, ◌⊎◌, ℕ, Bool, true, false, List, Option, Some, None, Result, Ok, Err, IfOk, Vec, Global, cond, sym, ap, ◌∙◌, subst, inl, inr}
use Rattle.std.proofs.lemmas.Bool.{cases_Bool, cond-false}
use Rattle.std.proofs.lemmas.Option.{same_Some}
use Rattle.std.proofs.lemmas.Slice.Eq.{bytes_eq-Decides}
use Rattle.std.specs.BTreeMap.{UpdatesBy}
use Rattle.std.specs.Cmp.Lexicographic.{slice_cmp}
use Rattle.std.specs.Map.{lookup}
use Rattle.std.specs.Ordering.{is_eq, nat_cmp}
use Rattle.std.specs.Str.{bytes_eq}
use Rattle.bx_tree.proofs.Lists.{texts_differ}
use Rattle.bx_tree.proofs.TextTables.{text_put}
use Rattle.bx_io.specs.Answers.{Finds}
use Rattle.bx_io.specs.Causes.{CanRise, HasCause}
use Rattle.bx_io.specs.Holdings.{Holdings}
use Rattle.bx_io.specs.Told.{Stays}
use Rattle.bx_io.specs.declared.keeper.Got.TheVariants as got
use Rattle.memo_format.specs.StoreNames.{at_blob}
use Rattle.content_store.specs.Contents.{Checks, IsContent}
use Rattle.content_store.specs.declared.content.Fetched.{Fetched}
use Rattle.content_store.specs.declared.content.Fetched.TheVariants as fetched
use Rattle.content_store.proofs.HeldContents.{held_content}
use Rattle.two_phase.specs.Calls.{KeeperCall}
use Rattle.two_phase.specs.Finding.{FindsOne, IsOne}
use Rattle.two_phase.proofs.Used.{ok_no_err}
use Rattle.cache_care_check.specs.Known.{AreRight, Matches, noted_at}
use Rattle.cache_care_check.specs.declared.fault.CareFault.{CareFault}
use Rattle.cache_care_check.specs.declared.fault.CareFault.TheVariants as faults
use Rattle.cache_care_check.specs.declared.known.KnownContents.{KnownContents}

-- ## The table

same_or_other : (a b : List ℕ) → (a ≡ b) ⊎ (a ≡ b → ⊥)
same_or_other a b = elim (cases_Bool (bytes_eq a b)) [
  | inl t ↦ inl ((bytes_eq-Decides a b).0 t)
  | inr f ↦ inr (λ same. let both : bytes_eq a b ≡ true = (bytes_eq-Decides a b).1 same in absurd cc)
]

abbrev Updated : List ℕ → KnownContents → KnownContents → Option (Option (List ℕ)) → Type 0
Updated key old new value =
    UpdatesBy (λ a b. slice_cmp nat_cmp a.items b.items) (λ k. slice_cmp nat_cmp key k.items) old.contents new.contents value

other_noted : (key : List ℕ) (old new : KnownContents) (value : Option (Option (List ℕ))) → Updated key old new value → (q : List ℕ)
    → (key ≡ q → ⊥) → noted_at new q ≡ noted_at old q
other_noted key old new value h q other =
    text_put key old.contents new.contents value h q ∙ cond-false (bytes_eq key q) value (noted_at old q) (texts_differ key q other)

pub noted : (digest key : List ℕ) (found value : Option (List ℕ)) (old new : KnownContents) → key ≡ digest → value ≡ found
    → Updated key old new (Some value) → noted_at new digest ≡ Some found
noted digest key found value old new is same h = ap (noted_at new) (sym is) ∙ h.1 ∙ ap Some same

pub others_noted : (digest key : List ℕ) (value : Option (List ℕ)) (old new : KnownContents) → key ≡ digest → Updated key old new (Some value)
    → (q : List ℕ) → (digest ≡ q → ⊥) → noted_at new q ≡ noted_at old q
others_noted digest key value old new is h q apart = other_noted key old new (Some value) h q (λ e. apart (sym is ∙ e))

pub unchanged : (old new : KnownContents) → new.contents.entries ≡ old.contents.entries → (q : List ℕ) → noted_at new q ≡ noted_at old q
unchanged old new same q = ap (λ es. lookup (λ k. is_eq (slice_cmp nat_cmp q k.items)) es) same

-- ## What is noted is right

-- what was found is noted
pub right_noted : (told : Option Holdings) (digest : List ℕ) (found : Option (List ℕ)) (before now : KnownContents) → AreRight told before
    → FindsOne told (λ S x. IsContent S digest x) found → noted_at now digest ≡ Some found
    → ((q : List ℕ) → (digest ≡ q → ⊥) → noted_at now q ≡ noted_at before q) → AreRight told now
right_noted told digest found before now right finds here others = λ S is q other there. elim (same_or_other digest q) [
  | inl same ↦
      subst (λ (d : List ℕ). IsOne S (λ T x. IsContent T d x) other) same
      (subst (λ (o : Option (List ℕ)). IsOne S (λ T x. IsContent T digest x) o)
      (same_Some found other (sym here ∙ ap (noted_at now) same ∙ there)) (finds S is))
  | inr apart ↦ right S is q other (sym (others q apart) ∙ there)
]

-- nothing was noted
pub right_same : (told : Option Holdings) (before now : KnownContents) → AreRight told before
    → ((q : List ℕ) → noted_at now q ≡ noted_at before q) → AreRight told now
right_same told before now right same = λ S is q other there. right S is q other (sym (same q) ∙ there)

-- what was right is so of what is still told
pub right_on : (told now : Option Holdings) (known : KnownContents) → Stays told now → AreRight told known → AreRight now known
right_on told now known stays right = λ S is. right S (stays S is)

-- what is noted is what is held
pub right_there : (told : Option Holdings) (known : KnownContents) (digest : List ℕ) (found shared : Option (List ℕ)) → AreRight told known
    → noted_at known digest ≡ Some found → shared ≡ found → FindsOne told (λ S x. IsContent S digest x) shared
right_there told known digest found shared right there same = λ S is.
    subst (λ (o : Option (List ℕ)). IsOne S (λ T x. IsContent T digest x) o) (sym same) (right S is digest found there)

-- ## Bytes that are held under a digest

pub content_matched : (told : Option Holdings) (digest name : List ℕ) (bytes : Vec ℕ Global) (answer : Fetched)
    (r : Result (Option (List ℕ)) CareFault) → name ≡ at_blob digest → Finds told name (got.Found bytes)
    → Checks bytes.items digest answer → Matches answer r → IfOk r (FindsOne told (λ S x. IsContent S digest x))
content_matched told digest name bytes (fetched.Found blob) r named h check is =
    subst (λ (x : Result (Option (List ℕ)) CareFault). IfOk x (FindsOne told (λ S y. IsContent S digest y))) (sym is)
    (held_content told digest name bytes (fetched.Found blob) named h check)
content_matched told digest name bytes fetched.NotWell r named h check is =
    subst (λ (x : Result (Option (List ℕ)) CareFault). IfOk x (FindsOne told (λ S y. IsContent S digest y))) (sym is)
    (held_content told digest name bytes fetched.NotWell named h check)
content_matched told digest name bytes fetched.Fault r named h check is = absurd check
content_matched told digest name bytes fetched.Memory r named h check is =
    subst (λ (x : Result (Option (List ℕ)) CareFault). IfOk x (FindsOne told (λ S y. IsContent S digest y))) (sym is) tt

no_memory_failed : {X : Type 0} → ◌≡◌ {A = Result X CareFault} (Err faults.Memory) (Err faults.Failed) → ⊥
no_memory_failed e = cc

pub not_failed : (digest bytes : List ℕ) (answer : Fetched) (r : Result (Option (List ℕ)) CareFault) → Checks bytes digest answer
    → Matches answer r → r ≡ Err faults.Failed → ⊥
not_failed digest bytes (fetched.Found blob) r check is e = ok_no_err (Some blob) faults.Failed (sym is ∙ e)
not_failed digest bytes fetched.NotWell r check is e =
    let none : Option (List ℕ) = None in
    ok_no_err none faults.Failed (sym is ∙ e)
not_failed digest bytes fetched.Fault r check is e = absurd check
not_failed digest bytes fetched.Memory r check is e = no_memory_failed (sym is ∙ e)

-- a call that did not fail
pub call_kept : (b0 b1 : Option ℕ) (f0 f1 : ℕ) (A F : Type 0) → b1 ≡ b0 → CanRise b1 f1 → HasCause f0 f1 F → (¬ F → f1 ≡ f0) → ¬ F → ¬ A
    → KeeperCall b0 b1 f0 f1 A
call_kept b0 b1 f0 f1 A F bound rise cause still fault never = record {
  bound_is = bound;
  can_rise = λ h. rise;
  fault_can_rise = λ a. rise;
  cause = record { later = cause.later; rose = λ a. absurd (never a) };
  no_fault = λ n. still fault;
}
