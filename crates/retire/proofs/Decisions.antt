-- How one pip is decided, by what the calls of a decision answer.
use Rattle.std.proofs.Common.{◌≡◌, ℕ, true, false, ◌&&◌, List, map, Option, Some, None, refl, ap, sym, ◌∙◌, subst, inl, inr}
use Rattle.std.specs.Prelude.{◌↔◌, IfSome, IsSome, IsSomeAnd, MatchOption, is_some}
use Rattle.std.proofs.lemmas.Bool.{and_parts, cases_Bool}
use Rattle.std.proofs.lemmas.Option.{same_Some}
use Rattle.bx_tree.specs.Trees.{Files}
use Rattle.pip_model_types.specs.declared.desc.Desc.{Desc}
use Rattle.pip_model_types.specs.declared.made.Slot.{Slot}
use Rattle.pip_model_types.specs.declared.pip.Pip.{Pip}
use Rattle.pip_model_types.specs.declared.pip.PipKind.{PipKind}
use Rattle.pip_model_types.specs.declared.pip.PipKind.TheVariants.{Process}
use Rattle.pip_model_types.specs.declared.pip.ProcessDesc.{ProcessDesc}
use Rattle.observed.specs.declared.ask.Ask.{Ask}
use Rattle.observed.specs.declared.access.Answer.{Answer}
use Rattle.run_record.specs.Facts.{Facts, Sound}
use Rattle.run_record.specs.Holding.{HoldsNow}
use Rattle.prints.specs.declared.printed.Printed.{Printed}
use Rattle.two_phase.proofs.Kept.{hit_leads}
use Rattle.two_phase.specs.Lookups.{LookupGives, LookupHitIsCurrent}
use Rattle.two_phase.specs.declared.lookups.LookupResult.TheVariants as results
use Rattle.two_phase.specs.Reading.{ReaderData}
use Rattle.sched_board_slots.specs.declared.held.Held.{Held}
use Rattle.sched_board_slots.specs.declared.held.Held.TheVariants as held
use Rattle.memo_format.specs.Found.{FoundParts}
use Rattle.pip_view_inputs.specs.Plain.{desc_of, kind_process, process_in}
use Rattle.pip_view_inputs.specs.Results.{ByPip, inputs_of, kind_inputs}
use Rattle.violations.specs.Slots.{slot_files}
use Rattle.pip_view.specs.Sees.{sees}
use Rattle.pip_view.proofs.TakenDirs.{kind_is}
use Rattle.violations.specs.Verdicts.{is_success}
use Rattle.one_thread.specs.OneThread.{by_outcome}
use Rattle.one_thread.specs.Starting.{needs_run}
use Rattle.one_thread.specs.Views.{ended_in, ended_result, slots_are_good}
use Rattle.one_thread.proofs.OnePip.{not_skipped, skipped}
use Rattle.retire.specs.Accepting.{IsAccepted}
use Rattle.run_record.specs.Digests.{IsWeakOf}
use Rattle.retire.specs.declared.taking.Sought.TheVariants as sought
use Rattle.retire.specs.Deciding as deciding
use Rattle.retire.specs.Deciding.{DecidedBy, DecidesAt}
use Rattle.retire.specs.Taking.{IsOfNow, SeeksBy, TakesBy, save_if, outcome_in, record_in, way_of}
use Rattle.retire.specs.declared.deciding.Next.{Next}
use Rattle.retire.specs.declared.taking.Taken.{Taken}
use Rattle.retire.specs.declared.taking.Taken.TheVariants as takings
use Rattle.retire.specs.declared.taking.Way.TheVariants as ways

-- ## Lookups and runs

pub hit_taken : (reader : Option ReaderData) (d : Desc) (see : Ask → Answer) (f : FoundParts) → SeeksBy reader d see (sought.Hit f) → TakesBy reader d see (takings.Hit f)
hit_taken None d see f h = let never : false ≡ true = h.0 in absurd cc
hit_taken (Some r) d see f h = λ S e. h.2 r refl S e

pub unused_taken : (reader : Option ReaderData) (d : Desc) (see : Ask → Answer) (f : Facts) → reader ≡ None → TakesBy reader d see (takings.Missed f)
unused_taken None d see f none = tt
unused_taken (Some r) d see f none = let never : Some r ≡ None = none in absurd cc

pub miss_taken : (reader : Option ReaderData) (d : Desc) (see : Ask → Answer) (weak : Printed) (f : Facts) → SeeksBy reader d see (sought.Miss weak)
    → TakesBy reader d see (takings.Missed f)
miss_taken None d see weak f h = let never : false ≡ true = h.0 in absurd cc
miss_taken (Some r) d see weak f h = λ S e. h.2 r refl S e

pub fault_taken : (reader : Option ReaderData) (d : Desc) (see : Ask → Answer) (weak : Printed) (f : Facts) → SeeksBy reader d see (sought.Fault weak)
    → TakesBy reader d see (takings.Faulted f)
fault_taken None d see weak f h = let never : false ≡ true = h.0 in absurd cc
fault_taken (Some r) d see weak f h = λ S e. tt

-- an accepted run says nothing of a store
pub accepted_taken : (reader : Option ReaderData) (d : Desc) (see : Ask → Answer) (f : Facts) → TakesBy reader d see (takings.Accepted f)
accepted_taken None d see f = tt
accepted_taken (Some r) d see f = λ S e. tt

-- what is so of a description is so of the process that it is of
pub takes_in : (o : Option ProcessDesc) (tree : Files) (inputs : ByPip) (budget : ℕ) (d : Desc) (see view : Ask → Answer) (reader : Option ReaderData) (t : Taken)
    → IsSomeAnd o (λ p. d ≡ desc_of tree inputs budget p) → view ≡ see → TakesBy reader d view t
    → IfSome o (λ p. TakesBy reader (desc_of tree inputs budget p) see t)
takes_in None tree inputs budget d see view reader t same seen h = tt
takes_in (Some p) tree inputs budget d see view reader t same seen h =
    subst (λ (x : Desc). TakesBy reader x see t) same (subst (λ (v : Ask → Answer). TakesBy reader d v t) seen h)

-- so is what was taken, whatever is held
pub now_in : (o : Option ProcessDesc) (tree : Files) (inputs : ByPip) (budget : ℕ) (d : Desc) (see view : Ask → Answer) (slot : Held) (t : Taken)
    → IsSomeAnd o (λ p. d ≡ desc_of tree inputs budget p) → view ≡ see → IsOfNow d view slot t
    → IfSome o (λ p. IsOfNow (desc_of tree inputs budget p) see slot t)
now_in None tree inputs budget d see view slot t same seen h = tt
now_in (Some p) tree inputs budget d see view slot t same seen h =
    subst (λ (x : Desc). IsOfNow x see slot t) same (subst (λ (v : Ask → Answer). IsOfNow d v slot t) seen h)

pub hit_sought : (r : ReaderData) (d : Desc) (see : Ask → Answer) (f : FoundParts) → LookupGives r.held d see (results.Hit f) → LookupHitIsCurrent d see (results.Hit f)
    → SeeksBy (Some r) d see (sought.Hit f)
hit_sought r d see f gives now =
    (refl, now.1, λ q e S h. (hit_leads S d see f (gives S (ap (λ (x : ReaderData). x.held) (same_Some r q e) ∙ h)), now.0))

pub miss_sought : (r : ReaderData) (d : Desc) (see : Ask → Answer) (weak : Printed) → LookupGives r.held d see results.Miss → IsWeakOf d weak
    → SeeksBy (Some r) d see (sought.Miss weak)
miss_sought r d see weak gives is = (refl, is, λ q e S h. gives S (ap (λ (x : ReaderData). x.held) (same_Some r q e) ∙ h))

pub fault_sought : (r : ReaderData) (d : Desc) (see : Ask → Answer) (weak : Printed) → IsWeakOf d weak → SeeksBy (Some r) d see (sought.Fault weak)
fault_sought r d see weak is = (refl, is)

-- the weak text that came with a record
pub weak_there : (d : Desc) (o : Option Printed) (weak : Printed) → o ≡ Some weak → IfSome o (IsWeakOf d) → IsWeakOf d weak
weak_there d o weak is h = subst (λ (x : Option Printed). IfSome x (IsWeakOf d)) is h

-- ## Slots

-- what is no run is not accepted
not_run : (d : Desc) (see : Ask → Answer) (slot : Held) → ((f : Facts) → slot ≡ held.Ran f → ⊥) → IsAccepted d see slot → ⊥
not_run d see held.Empty other h = h
not_run d see (held.Ran f) other h = other f refl
not_run d see (held.Hit f) other h = h
not_run d see (held.Plain made) other h = h
not_run d see held.Skipped other h = h

pub not_run_in : (o : Option ProcessDesc) (tree : Files) (inputs : ByPip) (budget : ℕ) (see : Ask → Answer) (slot : Held) → ((f : Facts) → slot ≡ held.Ran f → ⊥)
    → IfSome o (λ p. IsAccepted (desc_of tree inputs budget p) see slot → ⊥)
not_run_in None tree inputs budget see slot other = tt
not_run_in (Some p) tree inputs budget see slot other = not_run (desc_of tree inputs budget p) see slot other

-- nor is a run that does not hold
pub fails_in : (o : Option ProcessDesc) (tree : Files) (inputs : ByPip) (budget : ℕ) (see : Ask → Answer) (slot : Held) (f : Facts) → slot ≡ held.Ran f
    → IfSome o (λ p. false ≡ true ↔ HoldsNow (desc_of tree inputs budget p) see f) → IfSome o (λ p. IsAccepted (desc_of tree inputs budget p) see slot → ⊥)
fails_in None tree inputs budget see slot f is h = tt
fails_in (Some p) tree inputs budget see slot f is h = λ yes.
    let never : false ≡ true = h.1 (subst (λ (s : Held). IsAccepted (desc_of tree inputs budget p) see s) is yes) in
    cc

pub holds_in : (o : Option ProcessDesc) (tree : Files) (inputs : ByPip) (budget : ℕ) (see : Ask → Answer) (slot : Held) (f : Facts) → slot ≡ held.Ran f → Sound f
    → IfSome o (λ p. true ≡ true ↔ HoldsNow (desc_of tree inputs budget p) see f)
    → IfSome o (λ p. (slot ≡ held.Ran f) × Sound f × HoldsNow (desc_of tree inputs budget p) see f)
holds_in None tree inputs budget see slot f is sound h = tt
holds_in (Some p) tree inputs budget see slot f is sound h = (is, sound, h.0 refl)

-- what is found of a slot
abbrev pub IsFoundIn : Desc → (Ask → Answer) → Held → Option Facts → Type 0
IsFoundIn d see slot found = MatchOption found (IsAccepted d see slot → ⊥) (λ (f : Facts). (slot ≡ held.Ran f) × Sound f × HoldsNow d see f)

pub found_run : (o : Option ProcessDesc) (tree : Files) (inputs : ByPip) (budget : ℕ) (see : Ask → Answer) (slot : Held) (found : Option Facts) (f : Facts) → found ≡ Some f
    → IfSome o (λ p. IsFoundIn (desc_of tree inputs budget p) see slot found) → IfSome o (λ p. IsOfNow (desc_of tree inputs budget p) see slot (takings.Accepted f))
found_run o tree inputs budget see slot found f is h =
    subst (λ (x : Option Facts). IfSome o (λ p. IsFoundIn (desc_of tree inputs budget p) see slot x)) is h

pub found_none : (o : Option ProcessDesc) (tree : Files) (inputs : ByPip) (budget : ℕ) (see : Ask → Answer) (slot : Held) (found : Option Facts) → found ≡ None
    → IfSome o (λ p. IsFoundIn (desc_of tree inputs budget p) see slot found) → IfSome o (λ p. IsAccepted (desc_of tree inputs budget p) see slot → ⊥)
found_none o tree inputs budget see slot found is h =
    subst (λ (x : Option Facts). IfSome o (λ p. IsFoundIn (desc_of tree inputs budget p) see slot x)) is h

-- what is taken where the slot is empty is taken where its run is not accepted
else_now : (d : Desc) (see : Ask → Answer) (slot : Held) (t : Taken) → (IsAccepted d see slot → ⊥) → IsOfNow d see held.Empty t → IsOfNow d see slot t
else_now d see slot (takings.Accepted f) other now = let never : held.Empty ≡ held.Ran f = now.0 in absurd cc
else_now d see slot (takings.Hit f) other now = (other, now.1)
else_now d see slot (takings.Missed f) other now = (other, now.1, now.2)
else_now d see slot (takings.Faulted f) other now = (other, now.1, now.2)

pub else_in : (o : Option ProcessDesc) (tree : Files) (inputs : ByPip) (budget : ℕ) (see : Ask → Answer) (slot : Held) (t : Taken)
    → IfSome o (λ p. IsAccepted (desc_of tree inputs budget p) see slot → ⊥) → IfSome o (λ p. IsOfNow (desc_of tree inputs budget p) see held.Empty t)
    → IfSome o (λ p. IsOfNow (desc_of tree inputs budget p) see slot t)
else_in None tree inputs budget see slot t other now = tt
else_in (Some p) tree inputs budget see slot t other now = else_now (desc_of tree inputs budget p) see slot t other now

pub accepted_in : (o : Option ProcessDesc) (tree : Files) (inputs : ByPip) (budget : ℕ) (see : Ask → Answer) (reader : Option ReaderData) (f : Facts)
    → IfSome o (λ p. TakesBy reader (desc_of tree inputs budget p) see (takings.Accepted f))
accepted_in None tree inputs budget see reader f = tt
accepted_in (Some p) tree inputs budget see reader f = accepted_taken reader (desc_of tree inputs budget p) see f

-- ## Processes

pub decided_by : (pips : List Pip) (tree : Files) (budget : ℕ) (reader : Option ReaderData) (slot : Held) (made : List Files) (inputs : ByPip) (i : ℕ) (o : Option ProcessDesc)
    (t : Taken) (next : Next)
    → IfSome o (λ p. TakesBy reader (desc_of tree inputs budget p) (sees pips tree inputs i) t)
    → IfSome o (λ p. IsOfNow (desc_of tree inputs budget p) (sees pips tree inputs i) slot t) → ended_result next.ended ≡ by_outcome pips tree made i (outcome_in t)
    → next.way ≡ way_of t → next.saved ≡ save_if (is_some reader && is_success next.ended.verdict) (record_in t)
    → IfSome o (λ p. DecidedBy pips tree budget reader slot made inputs i p next)
decided_by pips tree budget reader slot made inputs i None t next takes now result way kept = tt
decided_by pips tree budget reader slot made inputs i (Some p) t next takes now result way kept =
    record { taken = t; takes = takes; now = now; result_is = result; way_is = way; record_is = kept }

-- ## Pips

-- what is no process has none
none_there : (o : Option ProcessDesc) → is_some o ≡ false → o ≡ None
none_there None e = refl
none_there (Some p) e = cc

pub decide_done : (pips : List Pip) (tree : Files) (budget : ℕ) (reader : Option ReaderData) (slot : Held) (ss : List Slot) (i : ℕ) (o : Option Pip) (next : Next) → IsSome o
    → needs_run pips o ss ≡ false → ended_result next.ended ≡ ended_in pips tree budget ss i o → next.way ≡ ways.Plain → next.saved ≡ None
    → DecidesAt pips tree budget reader slot ss i o next
decide_done pips tree budget reader slot ss i None next there idle result way kept = absurd cc
decide_done pips tree budget reader slot ss i (Some pip) next there idle result way kept = elim (cases_Bool (slots_are_good pips pip.kind ss)) [
  | inl good ↦
      deciding.plain good (none_there (kind_process pip.kind) (sym (ap (λ b. b && is_some (kind_process pip.kind)) good) ∙ idle))
      (record { result_is = result ∙ sym (not_skipped pips tree budget ss i (Some pip) good); way_is = way; record_is = kept })
  | inr bad ↦
      deciding.skipped bad (record { result_is = result ∙ sym (skipped pips tree budget ss i (Some pip) bad); way_is = way; record_is = kept })
]

pub decide_process : (pips : List Pip) (tree : Files) (budget : ℕ) (reader : Option ReaderData) (slot : Held) (ss : List Slot) (i : ℕ) (o : Option Pip) (inputs : ByPip) (next : Next)
    → needs_run pips o ss ≡ true → inputs ≡ kind_inputs pips o (map slot_files ss)
    → IfSome (process_in o) (λ q. DecidedBy pips tree budget reader slot (map slot_files ss) inputs i q next) → DecidesAt pips tree budget reader slot ss i o next
decide_process pips tree budget reader slot ss i None inputs next runs same h = absurd cc
decide_process pips tree budget reader slot ss i (Some pip) inputs next runs same h = by_process (kind_process pip.kind) refl both.1 h
  where
    both : (slots_are_good pips pip.kind ss ≡ true) × IsSome (kind_process pip.kind)
    both = and_parts (slots_are_good pips pip.kind ss) (is_some (kind_process pip.kind)) runs

    by_process : (x : Option ProcessDesc) → kind_process pip.kind ≡ x → IsSome x
        → IfSome x (λ q. DecidedBy pips tree budget reader slot (map slot_files ss) inputs i q next) → DecidesAt pips tree budget reader slot ss i (Some pip) next
    by_process None is some by = absurd cc
    by_process (Some p) is some by =
        let kind : pip.kind ≡ Process p = kind_is pip.kind p is in
        let now : DecidedBy pips tree budget reader slot (map slot_files ss) (inputs_of pips pip.kind (map slot_files ss)) i p next =
        subst (λ (m : ByPip). DecidedBy pips tree budget reader slot (map slot_files ss) m i p next) same by in
        deciding.process p both.0 kind
        (subst (λ (k : PipKind). DecidedBy pips tree budget reader slot (map slot_files ss) (inputs_of pips k (map slot_files ss)) i p next) kind now)
