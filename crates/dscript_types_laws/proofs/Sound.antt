-- Evaluation that comes to what is said, one thing after another.
use Rattle.std.proofs.Common.{◌≡◌, ℕ, ◌-◌, Bool, true, false, cond, List, Result, Ok, Err, refl, sym, subst}
use Rattle.std.specs.Prelude.{nat_le}
use Rattle.dscript_sdk_values.specs.declared.fault.SdkFault.{SdkFault}
use Rattle.dscript_sdk_values.specs.declared.fault.SdkFault.TheVariants as sdk_faults
use Rattle.dscript_sdk_values.specs.Outcomes.{Outcome}
use Rattle.dscript_eval_meaning.specs.declared.fault.EvalKind.{EvalKind}
use Rattle.dscript_eval_meaning.specs.declared.fault.EvalKind.TheVariants as kinds
use Rattle.dscript_eval_meaning.specs.Evaluating.{Gives, Stop, answered, fails, followed, gives, spend, stop_of, ◌>>=◌, ◌>>◌}
use Rattle.dscript_eval_meaning.specs.States.{Frame, State}
use Rattle.dscript_types_laws.specs.Invariants.{Answers, ComesTo, HoldsConstants, HoldsLocals, IsGoodFault, IsSound}
use Rattle.dscript_types_laws.specs.Invariants.{KeepsToKindsAt}
use Rattle.dscript_types_laws.specs.Kinds.{IsNoKindFault}
use Rattle.dscript_types_meaning.specs.Contexts.{Known, Local}

-- from this state it comes to what is said
abbrev pub Sound : (A : Type 0) → Known → (A → Type 0) → Gives A → State → Type 0
Sound A known Is m s = HoldsConstants known s → ComesTo A known Is s.frame (m s)

module _ (known : Known) where
  -- ## From one state

  followed_comes
      : (A B : Type 0) (Is : A → Type 0) (Js : B → Type 0) (f : A → Gives B) (s : State)
      (r : Result (A × State) Stop) → ComesTo A known Is s.frame r
      → ((x : A) (after : State) → r ≡ Ok (x, after) → Is x → after.frame ≡ s.frame → Sound B known Js (f x) after)
      → ComesTo B known Js s.frame (followed r f)
  followed_comes A B Is Js f s (Ok r) c next =
      subst (λ (before : Frame). ComesTo B known Js before (f r.0 r.1)) c.frame
      (next r.0 r.1 refl c.is c.frame c.constants)
  followed_comes A B Is Js f s (Err stop) c next = c

  -- one thing, and then another, which knows what the first has come to
  pub in_order
      : (A B : Type 0) (Is : A → Type 0) (Js : B → Type 0) (m : Gives A) (f : A → Gives B) (s : State)
      → Sound A known Is m s
      → ((x : A) (after : State) → m s ≡ Ok (x, after) → Is x → after.frame ≡ s.frame → Sound B known Js (f x) after)
      → Sound B known Js (m >>= f) s
  in_order A B Is Js m f s first next constants =
      followed_comes A B Is Js f s (m s) (first constants) next

  -- ## From each state whose frame holds these locals

  module _ (locals : List Local) where
    pub bound
        : (A B : Type 0) (Is : A → Type 0) (Js : B → Type 0) (m : Gives A) (f : A → Gives B)
        → IsSound A known locals Is m → ((x : A) → Is x → IsSound B known locals Js (f x))
        → IsSound B known locals Js (m >>= f)
    bound A B Is Js m f first next s holds =
        in_order A B Is Js m f s (first s holds)
        (λ x after is what same. next x what after (subst (λ (frame : Frame). HoldsLocals frame locals) (sym same) holds))

    pub both
        : (A B : Type 0) (Is : A → Type 0) (Js : B → Type 0) (m : Gives A) (n : Gives B)
        → IsSound A known locals Is m → IsSound B known locals Js n → IsSound B known locals Js (m >> n)
    both A B Is Js m n first next = bound A B Is Js m (λ x. n) first (λ x is. next)

    pub given : (A : Type 0) (Is : A → Type 0) (x : A) → Is x → IsSound A known locals Is (gives x)
    given A Is x is s holds constants = record { is = is; frame = refl; constants = constants }

    pub failed : (A : Type 0) (Is : A → Type 0) (kind : EvalKind) → IsNoKindFault kind → IsSound A known locals Is (fails kind)
    failed A Is kind good s holds constants = good

    pub good_stop : (f : SdkFault) (file : ℕ) → IsGoodFault f → KeepsToKindsAt (stop_of f file)
    good_stop sdk_faults.Kind file g = g
    good_stop sdk_faults.Missing file g = g
    good_stop sdk_faults.Range file g = tt
    good_stop sdk_faults.BadPath file g = tt
    good_stop sdk_faults.BadArgument file g = tt
    good_stop (sdk_faults.User message) file g = tt
    good_stop sdk_faults.Memory file g = tt

    pub answer
        : (A : Type 0) (Is : A → Type 0) (o : Outcome A) → Answers A Is o → IsSound A known locals Is (answered o)
    answer A Is (Ok x) is s holds constants = record { is = is; frame = refl; constants = constants }
    answer A Is (Err fault) good s holds constants = good_stop fault s.frame.file good

    spending
        : (k : ℕ) (s : State) (b : Bool) → HoldsConstants known s
        → ComesTo (Unit {0}) known (λ x. Unit {0}) s.frame
        (cond b (Ok (tt, record s { left = s.left - k })) (fails {A = Unit {0}} kinds.Budget s))
    spending k s true constants = record { is = tt; frame = refl; constants = constants }
    spending k s false constants = tt

    pub spent : (k : ℕ) → IsSound (Unit {0}) known locals (λ x. Unit {0}) (spend k)
    spent k s holds constants = spending k s (nat_le k s.left) constants

    pub choice
        : (A : Type 0) (Is : A → Type 0) (b : Bool) (m n : Gives A)
        → (b ≡ true → IsSound A known locals Is m) → (b ≡ false → IsSound A known locals Is n)
        → IsSound A known locals Is (cond b m n)
    choice A Is true m n one other = one refl
    choice A Is false m n one other = other refl

    pub comes_wider
        : (A : Type 0) (Is Js : A → Type 0) (before : Frame) (r : Result (A × State) Stop)
        → ((x : A) → Is x → Js x) → ComesTo A known Is before r → ComesTo A known Js before r
    comes_wider A Is Js before (Ok r) wide c = record { is = wide r.0 c.is; frame = c.frame; constants = c.constants }
    comes_wider A Is Js before (Err stop) wide c = c

    pub wider
        : (A : Type 0) (Is Js : A → Type 0) (m : Gives A) → ((x : A) → Is x → Js x)
        → IsSound A known locals Is m → IsSound A known locals Js m
    wider A Is Js m wide first s holds constants =
        comes_wider A Is Js s.frame (m s) wide (first s holds constants)
