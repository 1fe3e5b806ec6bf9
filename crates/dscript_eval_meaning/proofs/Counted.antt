-- What takes a number of steps.
use Rattle.std.proofs.Common.{◌≡◌, ℕ, ◌+◌, ◌-◌, ◌≤◌, ◌<◌, Bool, cond, None, Result, Ok, Err}
use Rattle.std.proofs.Common.{refl, ap, ◌∙◌, arith, inl, inr}
use Rattle.std.proofs.lemmas.Bool.{cases_lt, le-leb, lt-leb}
use Rattle.dscript_value.specs.Plain.{Plain}
use Rattle.dscript_sdk_values.specs.declared.fault.SdkFault.{SdkFault}
use Rattle.dscript_sdk_values.specs.declared.fault.SdkFault.TheVariants as sdk_faults
use Rattle.dscript_sdk_values.specs.Outcomes.{Outcome}
use Rattle.dscript_sdk_pips.specs.States.{State as Calls}
use Rattle.dscript_eval_meaning.specs.declared.fault.EvalKind.{EvalKind}
use Rattle.dscript_eval_meaning.specs.declared.fault.EvalKind.TheVariants as kinds
use Rattle.dscript_eval_meaning.specs.Calls.{with_calls}
use Rattle.dscript_eval_meaning.specs.Evaluating.{Gives, Stop, Fault, TooMany, answered, fails, followed, gives}
use Rattle.dscript_eval_meaning.specs.Evaluating.{spend, stop_of, ◌>>=◌, ◌>>◌}
use Rattle.dscript_eval_meaning.specs.Frames.{within}
use Rattle.dscript_eval_meaning.specs.States.{Frame, State}

abbrev pub with_left : ℕ → State → State
with_left n s = record s { left = n }

-- with a number of steps left at the end
abbrev pub left_over : {A : Type 0} → ℕ → Result (A × State) Stop → Result (A × State) Stop
left_over n (Ok r) = Ok (r.0, with_left n r.1)
left_over n (Err stop) = Err stop

abbrev pub IsShort : {A : Type 0} → Result (A × State) Stop → Type 0
IsShort r = (file : ℕ) × (r ≡ Err (Fault kinds.Budget file None))

abbrev pub IsOtherKind : EvalKind → Type 0
IsOtherKind kinds.Budget = ⊥
IsOtherKind _ = Unit {0}

abbrev pub IsOtherStop : Stop → Type 0
IsOtherStop (Fault kind file message) = IsOtherKind kind
IsOtherStop TooMany = Unit {0}

-- no want of steps
abbrev pub IsOther : {A : Type 0} → Result (A × State) Stop → Type 0
IsOther (Ok r) = Unit {0}
IsOther (Err stop) = IsOtherStop stop

-- From a state on, this takes a number of steps to its outcome, whatever number of steps is left; where fewer
-- are left it runs out of them.
pub record Runs (A : Type 0) (m : Gives A) (s : State) : Type 0 where
  pub cost : ℕ
  pub outcome : Result (A × State) Stop
  pub other : IsOther outcome
  pub enough : (n : ℕ) → cost ≤ n → m (with_left n s) ≡ left_over (n - cost) outcome
  pub short : (n : ℕ) → n < cost → IsShort (m (with_left n s))

abbrev pub Counted : (A : Type 0) → Gives A → Type 0
Counted A m = (s : State) → Runs A m s

-- at no cost
pub free
    : (A : Type 0) (m : Gives A) (s : State) (outcome : Result (A × State) Stop) → IsOther outcome
    → ((n : ℕ) → m (with_left n s) ≡ left_over n outcome) → Runs A m s
free A m s outcome other is = record {
  cost = 0;
  outcome = outcome;
  other = other;
  enough = λ n le. is n ∙ ap (λ k. left_over k outcome) (let e : n ≡ n - 0 = omega arith in e);
  short = λ n lt. absurd (omega (arith, lt));
}

-- another way to write it
pub same_runs
    : (A : Type 0) (m m' : Gives A) (s s' : State) → ((n : ℕ) → m' (with_left n s') ≡ m (with_left n s))
    → Runs A m s → Runs A m' s'
same_runs A m m' s s' is r = record {
  cost = r.cost;
  outcome = r.outcome;
  other = r.other;
  enough = λ n le. is n ∙ r.enough n le;
  short = λ n lt. ((r.short n lt).0, is n ∙ (r.short n lt).1);
}

abbrev spending : ℕ → ℕ → State → Bool → Result (Unit {0} × State) Stop
spending k n s b = cond b (Ok (tt, with_left (n - k) s)) (fails kinds.Budget (with_left n s))

pub spent : (k : ℕ) → Counted (Unit {0}) (spend k)
spent k s = record {
  cost = k;
  outcome = Ok (tt, s);
  other = tt;
  enough = λ n le. ap (spending k n s) (le-leb k n le);
  short = λ n lt. (s.frame.file, ap (spending k n s) (lt-leb k n lt));
}

joined
    : (A B : Type 0) (m : Gives A) (f : A → Gives B) → ((x : A) → Counted B (f x)) → (s : State) (cost : ℕ)
    (outcome : Result (A × State) Stop) → IsOther outcome
    → ((n : ℕ) → cost ≤ n → m (with_left n s) ≡ left_over (n - cost) outcome)
    → ((n : ℕ) → n < cost → IsShort (m (with_left n s)))
    → Runs B (m >>= f) s
joined A B m f next s cost (Err stop) other enough short = record {
  cost = cost;
  outcome = Err stop;
  other = other;
  enough = λ n le. ap (λ r. followed r f) (enough n le);
  short = λ n lt. ((short n lt).0, ap (λ r. followed r f) (short n lt).1);
}
joined A B m f next s cost (Ok r) other enough short =
    let more : Runs B (f r.0) r.1 = next r.0 r.1 in record {
      cost = cost + more.cost;
      outcome = more.outcome;
      other = more.other;
      enough = λ n le.
          let before : cost ≤ n = omega arith in
          let following : more.cost ≤ n - cost = omega arith in
          let all : (n - cost) - more.cost ≡ n - (cost + more.cost) = omega arith in
          ap (λ q. followed q f) (enough n before) ∙ more.enough (n - cost) following
          ∙ ap (λ k. left_over k more.outcome) all;
      short = λ n lt. elim (cases_lt n cost) [
        | inl less ↦ ((short n less).0, ap (λ q. followed q f) (short n less).1)
        | inr le ↦
            let following : n - cost < more.cost = omega arith in (
              (more.short (n - cost) following).0,
              ap (λ q. followed q f) (enough n le) ∙ (more.short (n - cost) following).1,
            )
      ];
    }

-- one thing, and then another with its value
pub bound
    : (A B : Type 0) (m : Gives A) (f : A → Gives B) → Counted A m → ((x : A) → Counted B (f x))
    → Counted B (m >>= f)
bound A B m f first next s =
    joined A B m f next s (first s).cost (first s).outcome (first s).other (first s).enough (first s).short

pub both
    : (A B : Type 0) (m : Gives A) (m' : Gives B) → Counted A m → Counted B m' → Counted B (m >> m')
both A B m m' first next = bound A B m (λ x. m') first (λ x. next)

pub given : (A : Type 0) (x : A) → Counted A (gives x)
given A x s = free A (gives x) s (Ok (x, s)) tt (λ n. refl)

pub failed : (A : Type 0) (kind : EvalKind) → IsOtherKind kind → Counted A (fails kind)
failed A kind other s = free A (fails kind) s (Err (Fault kind s.frame.file None)) other (λ n. refl)

other_fault : (fault : SdkFault) (file : ℕ) → IsOtherStop (stop_of fault file)
other_fault sdk_faults.Kind file = tt
other_fault sdk_faults.Missing file = tt
other_fault sdk_faults.Range file = tt
other_fault sdk_faults.BadPath file = tt
other_fault sdk_faults.BadArgument file = tt
other_fault (sdk_faults.User message) file = tt
other_fault sdk_faults.Memory file = tt

pub answer : (A : Type 0) (o : Outcome A) → Counted A (answered o)
answer A (Ok x) s = free A (answered (Ok x)) s (Ok (x, s)) tt (λ n. refl)
answer A (Err fault) s =
    free A (answered (Err fault)) s (Err (stop_of fault s.frame.file)) (other_fault fault s.frame.file)
    (λ n. refl)

-- what changes the state of calls
pub changed
    : (m : Gives Plain) (s : State) (change : Outcome (Plain × Calls))
    → ((n : ℕ) → m (with_left n s) ≡ with_calls (with_left n s) change) → Runs Plain m s
changed m s (Ok r) is = free Plain m s (Ok (r.0, record s { calls = r.1 })) tt is
changed m s (Err fault) is =
    free Plain m s (Err (stop_of fault s.frame.file)) (other_fault fault s.frame.file) is

-- ## Frames

abbrev pub entering : {A : Type 0} → Frame → Gives A → Gives A
entering frame body s = body (record s { frame = frame })

abbrev pub leaving : {A : Type 0} → Frame → A → Gives A
leaving old x s = Ok (x, record s { frame = old })

pub inside : (A : Type 0) (frame : Frame) (body : Gives A) → Counted A body → Counted A (within frame body)
inside A frame body counted s =
    same_runs A (entering frame body >>= leaving s.frame) (within frame body) s s (λ n. refl)
    (bound A A (entering frame body) (leaving s.frame)
    (λ t. same_runs A body (entering frame body) (record t { frame = frame }) t (λ n. refl)
    (counted (record t { frame = frame })))
    (λ x t. free A (leaving s.frame x) t (Ok (x, record t { frame = s.frame })) tt (λ n. refl)) s)
