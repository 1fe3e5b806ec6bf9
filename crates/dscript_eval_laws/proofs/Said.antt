-- What says a message only where a specification asked to be refused.
use Rattle.std.proofs.Common.{◌≡◌, ℕ, ◌-◌, Bool, true, false, cond, List, Option, Some, None, Result, Ok, Err, refl, sym, subst}
use Rattle.std.specs.Prelude.{nat_le}
use Rattle.dscript_value.specs.Plain.{Plain}
use Rattle.dscript_sdk_values.specs.declared.fault.SdkFault.{SdkFault}
use Rattle.dscript_sdk_values.specs.declared.fault.SdkFault.TheVariants as sdk_faults
use Rattle.dscript_sdk_values.specs.Outcomes.{Outcome}
use Rattle.dscript_sdk_pips.specs.States.{State as Calls}
use Rattle.dscript_eval_meaning.specs.declared.fault.EvalKind.{EvalKind}
use Rattle.dscript_eval_meaning.specs.declared.fault.EvalKind.TheVariants as kinds
use Rattle.dscript_eval_meaning.specs.Calls.{with_calls}
use Rattle.dscript_eval_meaning.specs.Evaluating.{Gives, Stop, Fault, TooMany, answered, fails, followed, gives}
use Rattle.dscript_eval_meaning.specs.Evaluating.{spend, stop_of, ◌>>=◌, ◌>>◌}
use Rattle.dscript_eval_meaning.specs.Frames.{within}
use Rattle.dscript_eval_meaning.specs.States.{Frame, State}

abbrev pub with_left : ℕ → State → State
with_left n s = record s { left = n }

abbrev pub left_over : {A : Type 0} → ℕ → Result (A × State) Stop → Result (A × State) Stop
left_over n (Ok r) = Ok (r.0, with_left n r.1)
left_over n (Err stop) = Err stop

-- a message comes with the fault of a specification that asked to be refused
abbrev pub IsSaidBy : EvalKind → Option (List ℕ) → Type 0
IsSaidBy k None = Unit {0}
IsSaidBy k (Some message) = k ≡ kinds.User

abbrev pub IsSaidStop : Stop → Type 0
IsSaidStop (Fault kind file message) = IsSaidBy kind message
IsSaidStop TooMany = Unit {0}

abbrev pub IsSaid : {A : Type 0} → Result (A × State) Stop → Type 0
IsSaid (Ok r) = Unit {0}
IsSaid (Err stop) = IsSaidStop stop

-- From a state on, this says what it may, whatever number of steps is left.
pub record Runs (A : Type 0) (m : Gives A) (s : State) : Type 0 where
  pub says : (n : ℕ) → IsSaid (m (with_left n s))

abbrev pub Said : (A : Type 0) → Gives A → Type 0
Said A m = (s : State) → Runs A m s

said_left : (A : Type 0) (n : ℕ) (outcome : Result (A × State) Stop) → IsSaid outcome → IsSaid (left_over n outcome)
said_left A n (Ok r) said = tt
said_left A n (Err stop) said = said

pub free
    : (A : Type 0) (m : Gives A) (s : State) (outcome : Result (A × State) Stop) → IsSaid outcome
    → ((n : ℕ) → m (with_left n s) ≡ left_over n outcome) → Runs A m s
free A m s outcome said is = record {
  says = λ n. subst (λ (r : Result (A × State) Stop). IsSaid r) (sym (is n)) (said_left A n outcome said);
}

-- another way to write it
pub same_runs
    : (A : Type 0) (m m' : Gives A) (s s' : State) → ((n : ℕ) → m' (with_left n s') ≡ m (with_left n s))
    → Runs A m s → Runs A m' s'
same_runs A m m' s s' is r = record {
  says = λ n. subst (λ (q : Result (A × State) Stop). IsSaid q) (sym (is n)) (r.says n);
}

spending_said : (k n : ℕ) (s : State) (b : Bool)
    → IsSaid (cond b (Ok (tt, with_left (n - k) s)) (fails {A = Unit {0}} kinds.Budget (with_left n s)))
spending_said k n s true = tt
spending_said k n s false = tt

pub spent : (k : ℕ) → Said (Unit {0}) (spend k)
spent k s = record { says = λ n. spending_said k n s (nat_le k n) }

followed_said
    : (A B : Type 0) (f : A → Gives B) → ((x : A) → Said B (f x)) → (r : Result (A × State) Stop) → IsSaid r
    → IsSaid (followed r f)
followed_said A B f next (Ok r) said = (next r.0 r.1).says r.1.left
followed_said A B f next (Err stop) said = said

-- one thing, and then another with its value
pub bound
    : (A B : Type 0) (m : Gives A) (f : A → Gives B) → Said A m → ((x : A) → Said B (f x)) → Said B (m >>= f)
bound A B m f first next s = record {
  says = λ n. followed_said A B f next (m (with_left n s)) ((first s).says n);
}

pub both : (A B : Type 0) (m : Gives A) (m' : Gives B) → Said A m → Said B m' → Said B (m >> m')
both A B m m' first next = bound A B m (λ x. m') first (λ x. next)

pub given : (A : Type 0) (x : A) → Said A (gives x)
given A x s = record { says = λ n. tt }

pub failed : (A : Type 0) (kind : EvalKind) → Unit {0} → Said A (fails kind)
failed A k any s = record { says = λ n. tt }

said_fault : (fault : SdkFault) (file : ℕ) → IsSaidStop (stop_of fault file)
said_fault sdk_faults.Kind file = tt
said_fault sdk_faults.Missing file = tt
said_fault sdk_faults.Range file = tt
said_fault sdk_faults.BadPath file = tt
said_fault sdk_faults.BadArgument file = tt
said_fault (sdk_faults.User message) file = refl
said_fault sdk_faults.Memory file = tt

pub answer : (A : Type 0) (o : Outcome A) → Said A (answered o)
answer A (Ok x) s = record { says = λ n. tt }
answer A (Err fault) s = record { says = λ n. said_fault fault s.frame.file }

-- what changes the state of calls
pub changed
    : (m : Gives Plain) (s : State) (change : Outcome (Plain × Calls))
    → ((n : ℕ) → m (with_left n s) ≡ with_calls (with_left n s) change) → Runs Plain m s
changed m s (Ok r) is = free Plain m s (Ok (r.0, record s { calls = r.1 })) tt is
changed m s (Err fault) is =
    free Plain m s (Err (stop_of fault s.frame.file)) (said_fault fault s.frame.file) is

-- ## Frames

abbrev pub entering : {A : Type 0} → Frame → Gives A → Gives A
entering frame body s = body (record s { frame = frame })

abbrev pub leaving : {A : Type 0} → Frame → A → Gives A
leaving old x s = Ok (x, record s { frame = old })

pub inside : (A : Type 0) (frame : Frame) (body : Gives A) → Said A body → Said A (within frame body)
inside A frame body said s =
    same_runs A (entering frame body >>= leaving s.frame) (within frame body) s s (λ n. refl)
    (bound A A (entering frame body) (leaving s.frame)
    (λ t. same_runs A body (entering frame body) (record t { frame = frame }) t (λ n. refl)
    (said (record t { frame = frame })))
    (λ x t. free A (leaving s.frame x) t (Ok (x, record t { frame = s.frame })) tt (λ n. refl)) s)
