-- Hits in slots that are of now, and that the store still has.
use Rattle.std.proofs.Common.{◌≡◌, ℕ, ◌+◌, Option, Some, None, Result, Ok, Err, IfOk, sym, subst, arith}
use Rattle.std.specs.Prelude.{IfSome, IsSomeAnd, IsTrue}
use Rattle.bx_tree.specs.Trees.{Files, paths_of}
use Rattle.pip_model_types.specs.declared.desc.Desc.{Desc}
use Rattle.pip_model_types.specs.declared.pip.ProcessDesc.{ProcessDesc}
use Rattle.observed.specs.declared.ask.Ask.{Ask}
use Rattle.observed.specs.declared.access.Answer.{Answer}
use Rattle.run_record.specs.Facts.{Facts, IsRun, Sound}
use Rattle.memo_format.specs.Found.{FoundParts, IsFound}
use Rattle.two_phase_meaning.specs.Usable.{fits}
use Rattle.two_phase.specs.Lookups.{IsCurrentHit}
use Rattle.two_phase.specs.Reading.{ReaderData, ReadsIfAny}
use Rattle.two_phase.proofs.Kept.{kept_leads}
use Rattle.two_phase.proofs.ReaderCalls.{more_read}
use Rattle.pip_view_inputs.specs.Plain.{desc_of}
use Rattle.pip_view_inputs.specs.Results.{ByPip}
use Rattle.sched_board_slots.specs.Slots.{HitHolds}
use Rattle.sched_board_slots.specs.declared.held.Held.TheVariants as held
use Rattle.retire.specs.Accepting.{IsAccepted}
use Rattle.retire.specs.Taking.{IsOfNow, KeepsBy, TakesBy}
use Rattle.retire.specs.declared.taking.Again.{Again}
use Rattle.retire.specs.declared.taking.Again.TheVariants as agains
use Rattle.retire.specs.declared.taking.Taken.TheVariants as takings

-- ## What is kept

pub hit_now : (d : Desc) (see : Ask → Answer) (f : FoundParts) → IsFound f → HitHolds d see f → IsTrue (fits d.process (paths_of f.made)) → IsCurrentHit d see f
hit_now d see f is holds fit =
    record { weak_is = holds.found_for.weak; answers_are = holds.answers; fit = fit; unnested = is.unnested }

kept_taken : (reader : Option ReaderData) (d : Desc) (see : Ask → Answer) (f : FoundParts) → IsFound f → HitHolds d see f → IsTrue (fits d.process (paths_of f.made))
    → KeepsBy reader f → TakesBy reader d see (takings.Hit f)
kept_taken None d see f is holds fit kept = absurd kept
kept_taken (Some r) d see f is holds fit kept = λ S e. (kept_leads S d see f is (kept S e) (hit_now d see f is holds fit), holds.found_for.read)

-- as calls answer it, of the process that the pip is
module _ (o : Option ProcessDesc) (tree : Files) (inputs : ByPip) (budget : ℕ) (see : Ask → Answer) (f : FoundParts) (p : ProcessDesc) (there : o ≡ Some p) (is : IsFound f)
    (holds : IfSome o (λ q. HitHolds (desc_of tree inputs budget q) see f)) where
  own_holds : HitHolds (desc_of tree inputs budget p) see f
  own_holds = subst (λ (x : Option ProcessDesc). IfSome x (λ q. HitHolds (desc_of tree inputs budget q) see f)) there holds

  pub again_taken : {M : Type 0} (reader : Option ReaderData) (r : Result Again M) → IfOk r (λ again. again ≡ agains.Kept → KeepsBy reader f)
      → IfOk r (λ again. again ≡ agains.Kept → IsTrue (fits p (paths_of f.made)))
      → IfOk r (λ again. again ≡ agains.Kept → IfSome o (λ q. TakesBy reader (desc_of tree inputs budget q) see (takings.Hit f)))
  again_taken reader (Ok again) kept fit = λ yes.
      subst (λ (x : Option ProcessDesc). IfSome x (λ q. TakesBy reader (desc_of tree inputs budget q) see (takings.Hit f))) (sym there)
      (kept_taken reader (desc_of tree inputs budget p) see f is own_holds (fit yes) (kept yes))
  again_taken reader (Err e) kept fit = tt

  pub again_now : {M : Type 0} (r : Result Again M) → IfOk r (λ again. again ≡ agains.Kept → IsTrue (fits p (paths_of f.made)))
      → IfOk r (λ again. again ≡ agains.Kept → IfSome o (λ q. IsCurrentHit (desc_of tree inputs budget q) see f))
  again_now (Ok again) fit = λ yes.
      subst (λ (x : Option ProcessDesc). IfSome x (λ q. IsCurrentHit (desc_of tree inputs budget q) see f)) (sym there)
      (hit_now (desc_of tree inputs budget p) see f is own_holds (fit yes))
  again_now (Err e) fit = tt

-- ## What is taken for a hit in a slot

pub hit_of_now : (o : Option ProcessDesc) (tree : Files) (inputs : ByPip) (budget : ℕ) (see : Ask → Answer) (f : FoundParts)
    → IfSome o (λ p. IsCurrentHit (desc_of tree inputs budget p) see f) → IfSome o (λ p. IsOfNow (desc_of tree inputs budget p) see (held.Hit f) (takings.Hit f))
hit_of_now None tree inputs budget see f now = tt
hit_of_now (Some p) tree inputs budget see f now = (λ no_run. no_run, now)

-- a hit is no accepted run
pub hit_no_run : (o : Option ProcessDesc) (tree : Files) (inputs : ByPip) (budget : ℕ) (see : Ask → Answer) (f : FoundParts)
    → IfSome o (λ p. IsAccepted (desc_of tree inputs budget p) see (held.Hit f) → ⊥)
hit_no_run None tree inputs budget see f = tt
hit_no_run (Some p) tree inputs budget see f = λ no_run. no_run

-- the run after a fault, which a reader had
faulted_taken : (before now : Option ReaderData) (d : Desc) (see : Ask → Answer) (f : Facts) → ReadsIfAny before now 1 → TakesBy now d see (takings.Faulted f)
faulted_taken None None d see f reads = let never : 1 ≡ 0 = reads in absurd cc
faulted_taken None (Some r) d see f reads = absurd reads
faulted_taken (Some r) None d see f reads = absurd reads
faulted_taken (Some r) (Some s) d see f reads = λ S e. tt

pub fault_in : (o : Option ProcessDesc) (tree : Files) (inputs : ByPip) (budget : ℕ) (see : Ask → Answer) (before now : Option ReaderData) (f : Facts)
    → ReadsIfAny before now 1 → IfSome o (λ p. TakesBy now (desc_of tree inputs budget p) see (takings.Faulted f))
fault_in None tree inputs budget see before now f reads = tt
fault_in (Some p) tree inputs budget see before now f reads = faulted_taken before now (desc_of tree inputs budget p) see f reads

pub fault_now : (o : Option ProcessDesc) (tree : Files) (inputs : ByPip) (budget : ℕ) (see : Ask → Answer) (g : FoundParts) (f : Facts) → Sound f
    → IfSome o (λ p. IsRun f (desc_of tree inputs budget p) see) → IfSome o (λ p. IsOfNow (desc_of tree inputs budget p) see (held.Hit g) (takings.Faulted f))
fault_now None tree inputs budget see g f sound run = tt
fault_now (Some p) tree inputs budget see g f sound run = (λ no_run. no_run, sound, run)

-- a run on a view is that of the process that the pip is
pub run_in : {M : Type 0} (o : Option ProcessDesc) (tree : Files) (inputs : ByPip) (budget : ℕ) (d : Desc) (see view : Ask → Answer) (r : Result Facts M)
    → IsSomeAnd o (λ p. d ≡ desc_of tree inputs budget p) → view ≡ see → IfOk r (λ f. IsRun f d view)
    → IfOk r (λ f. IfSome o (λ p. IsRun f (desc_of tree inputs budget p) see))
run_in None tree inputs budget d see view (Ok f) same seen run = tt
run_in (Some p) tree inputs budget d see view (Ok f) same seen run = subst (λ (x : Desc). IsRun f x see) same (subst (λ (v : Ask → Answer). IsRun f d v) seen run)
run_in o tree inputs budget d see view (Err e) same seen run = tt

-- what was read after nothing had failed
pub read_after : {M T : Type 0} (a b c : Option ReaderData) (count : T → ℕ) (r : Result T M) → ReadsIfAny a b 0 → IfOk r (λ t. ReadsIfAny b c (count t))
    → IfOk r (λ t. ReadsIfAny a c (count t))
read_after a b c count (Ok t) first more =
    let same : 0 + count t ≡ count t = omega arith in
    subst (λ (n : ℕ). ReadsIfAny a c n) same (more_read a b c 0 (count t) first more)
read_after a b c count (Err e) first more = tt
