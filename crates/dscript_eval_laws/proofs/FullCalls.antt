-- No function is called with more or fewer values than it captures.
use Rattle.std.proofs.Common.{◌≡◌, ℕ, zero, suc, Bool, true, false, cond, List, [], length, Option, Some, None, Result, Ok, Err}
use Rattle.std.proofs.Common.{refl, sym, ap, ◌∙◌, subst}
use Rattle.std.proofs.lemmas.Bool.{eq-eqb}
use Rattle.bx_tree.specs.Trees.{Files}
use Rattle.pip_model_types.specs.declared.pip.Pip.{Pip}
use Rattle.dscript_sdk_calls.specs.Sources.{tree_answers}
use Rattle.dscript_value.specs.declared.parts.Callee.TheVariants as callees
use Rattle.dscript_value.specs.Plain.{Plain}
use Rattle.dscript_program.specs.ProgramData as declared
use Rattle.dscript_program.specs.ProgramData.{KindData, ProgramData}
use Rattle.dscript_eval_meaning.specs.declared.fault.EvalKind.TheVariants as kinds
use Rattle.dscript_eval_meaning.specs.declared.limits.TheConstants.{MAX_OPEN_CALLS}
use Rattle.dscript_eval_meaning.specs.Acts.{Act, Acts, Call, Demand}
use Rattle.dscript_eval_meaning.specs.Evaluating.{Fault, Gives, Stop}
use Rattle.dscript_eval_meaning.specs.Lookups.{declared_at}
use Rattle.dscript_eval_meaning.specs.Meaning.{acts, demand_files, evaluated, meaning, opened, pips_or_refusal, start}
use Rattle.dscript_eval_meaning.specs.States.{State}
use Rattle.dscript_eval_meaning.proofs.Alike.{Alike, IsExcused, same}
use Rattle.dscript_eval_meaning.proofs.AlikePrograms.{files_alike, opened_alike}
use Rattle.dscript_eval_laws.specs.FullCalls.{CapturesNothing, DeclaredCaptureNothing, acts_or, capture_count, is_full, meaning_or}
use Rattle.dscript_eval_laws.proofs.MadeForms.{Holds, IsActMade, IsKindHolding, Opens}
use Rattle.dscript_eval_laws.proofs.MadePrograms.{files_kept, opened_kept, start_sound}
use Rattle.dscript_eval_laws.proofs.MadeStates.{Comes, IsMark, Keeps, Whatever, failed}
use Rattle.dscript_eval_laws.proofs.MadeValues.{IsMade, no_growth}

-- what is not full stops with the mark
abbrev marked : Acts
marked a s = Err (Fault kinds.User 0 None)

module _ (p : ProgramData) where
  -- a function holds as many values as it captures
  abbrev IsFull : ℕ → ℕ → Type 0
  IsFull number count = count ≡ capture_count p number

  kind_full : (kind : Option KindData) → CapturesNothing p kind → IsKindHolding IsFull kind
  kind_full None h = tt
  kind_full (Some (declared.Const t e)) h = tt
  kind_full (Some (declared.Function ts t number)) h = sym (ap length h)
  kind_full (Some (declared.Interface ts es ms)) h = tt
  kind_full (Some (declared.TypeAlias ts t)) h = tt

  all_hold : DeclaredCaptureNothing p → Holds IsFull p
  all_hold nothing = record {
    arrows = λ number. refl;
    declares = λ file decl. kind_full (declared_at p file decl) (nothing file decl);
  }

  made_full : (pips : List Pip) (a : Act) → IsActMade IsFull pips a → is_full p a ≡ true
  made_full pips (Call (callees.Place number) held args) h = eq-eqb (length held) (capture_count p number) h.0
  made_full pips (Call (callees.Ambient name) held args) h = refl
  made_full pips (Call (callees.Member name) held args) h = refl
  made_full pips (Demand file decl) h = refl

  -- ## The mark is never met

  full_kept : DeclaredCaptureNothing p → (n : ℕ) → Opens IsFull (acts_or p marked n)
  unfolding acts_or
  full_kept nothing zero = λ pips a h. failed IsFull Plain (IsMade IsFull) pips kinds.Depth (λ file k. k)
  full_kept nothing (suc n) =
      λ pips a h.
      subst (λ b. Keeps IsFull Plain (IsMade IsFull) pips (cond b (opened p (acts_or p marked n) a) (marked a))) (sym (made_full pips a h))
      (opened_kept IsFull p (all_hold nothing) (acts_or p marked n) (full_kept nothing n) pips a h)

  no_excuse
      : (s : State) (r : Result (Unit {0} × State) Stop) → Comes IsFull (Unit {0}) (Whatever (Unit {0})) s r
      → IsExcused IsMark (Unit {0}) r → ⊥
  no_excuse s (Ok r) h excuse = excuse
  no_excuse s (Err stop) h excuse = h excuse

  -- ## Without the mark all is alike

  or_other
      : (b : Bool) (m m' other : Gives Plain) (a : Act) → Alike IsMark Plain m m'
      → Alike IsMark Plain (cond b m (marked a)) (cond b m' other)
  or_other true m m' other a alike = alike
  or_other false m m' other a alike = λ s excuse. absurd (excuse tt)

  otherwise_alike : (otherwise : Acts) (n : ℕ) (a : Act) → Alike IsMark Plain (acts_or p marked n a) (acts_or p otherwise n a)
  unfolding acts_or
  otherwise_alike otherwise zero a = same IsMark Plain _
  otherwise_alike otherwise (suc n) a =
      or_other (is_full p a) _ _ (otherwise a) a
      (opened_alike IsMark p (acts_or p marked n) (acts_or p otherwise n) (otherwise_alike otherwise n) a)

  or_this
      : (b : Bool) (m m' : Gives Plain) (a : Act) → Alike IsMark Plain m m'
      → Alike IsMark Plain (cond b m (marked a)) m'
  or_this true m m' a alike = alike
  or_this false m m' a alike = λ s excuse. absurd (excuse tt)

  acts_alike : (n : ℕ) (a : Act) → Alike IsMark Plain (acts_or p marked n a) (acts p n a)
  unfolding acts_or acts
  acts_alike zero a = same IsMark Plain _
  acts_alike (suc n) a =
      or_this (is_full p a) _ _ a (opened_alike IsMark p (acts_or p marked n) (acts p n) (acts_alike n) a)

-- ## The law

pub all_calls_are_full
    : (p : ProgramData) (otherwise : Acts) (sources : Files) (budget : ℕ) → DeclaredCaptureNothing p
    → meaning_or p otherwise sources budget ≡ meaning p sources budget
unfolding meaning evaluated
all_calls_are_full p otherwise sources budget nothing =
    let n = MAX_OPEN_CALLS in
    let s = start p (tree_answers sources) budget in
    let full = acts_or p marked n in
    let kept : Comes (IsFull p) (Unit {0}) (Whatever (Unit {0})) s (demand_files full 0 p.files s) =
    files_kept (IsFull p) p (all_hold p nothing) full (full_kept p nothing n) 0 p.files [] s (no_growth [])
    (start_sound (IsFull p) p (tree_answers sources) budget) in
    let other : demand_files (acts_or p otherwise n) 0 p.files s ≡ demand_files full 0 p.files s =
    files_alike IsMark full (acts_or p otherwise n) (otherwise_alike p otherwise n) 0 p.files s
    (no_excuse p s (demand_files full 0 p.files s) kept) in
    let this : demand_files (acts p n) 0 p.files s ≡ demand_files full 0 p.files s =
    files_alike IsMark full (acts p n) (acts_alike p n) 0 p.files s (no_excuse p s (demand_files full 0 p.files s) kept) in
    ap (pips_or_refusal p) (other ∙ sym this)
