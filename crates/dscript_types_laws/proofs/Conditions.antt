-- What conditions say of the locals that a frame holds.
use Rattle.std.proofs.Common.{◌≡◌, ℕ, Bool, true, false, cond, List, [], ◌∷◌, Option, Some, None, refl, subst, eqb-true}
use Rattle.std.specs.Bool.{beq}
use Rattle.std.specs.List.{find}
use Rattle.std.specs.Option.{option_map}
use Rattle.std.specs.Prelude.{IfSome, ◌==◌}
use Rattle.dscript_value.specs.Plain as plain
use Rattle.dscript_value.specs.Plain.{Plain}
use Rattle.dscript_program.specs.BoundTree.{ExprData}
use Rattle.dscript_eval_meaning.specs.Frames.{local_value}
use Rattle.dscript_eval_meaning.specs.States.{Frame}
use Rattle.dscript_types_meaning.specs.Types.{TypeData}
use Rattle.dscript_types_meaning.specs.Unions.{without_undefined}
use Rattle.dscript_types_meaning.specs.Values.{HasType}
use Rattle.dscript_types_meaning.specs.Contexts.{Captured, Context, Fixed, Hold, Local, Variable, local_at}
use Rattle.dscript_types_meaning.specs.Narrowing.{Told, narrow_held, narrow_local, narrow_told, narrowed, told}
use Rattle.dscript_types_values.proofs.Joining.{has_without}
use Rattle.dscript_types_laws.specs.Invariants.{HoldsLocal, HoldsLocals}

-- ## Locals that are held

-- a local that is seen is held
found_case
    : (frame : Frame) (l : Local) (ls : List Local) (n : ℕ) (k : Local) (b : Bool) → (l.number == n) ≡ b
    → HoldsLocal frame l × HoldsLocals frame ls
    → (find (λ (j : Local). j.number == n) ls ≡ Some k → HoldsLocals frame ls → HoldsLocal frame k × (k.number ≡ n))
    → cond b (Some l) (find (λ (j : Local). j.number == n) ls) ≡ Some k → HoldsLocal frame k × (k.number ≡ n)
found_case frame l ls n k true is holds more e =
    let same : l ≡ k = cc in
    subst (λ (j : Local). HoldsLocal frame j × (j.number ≡ n)) same (holds.0, eqb-true l.number n is)
found_case frame l ls n k false is holds more e = more e holds.1

held_at
    : (frame : Frame) (ls : List Local) (n : ℕ) (k : Local) → find (λ (j : Local). j.number == n) ls ≡ Some k
    → HoldsLocals frame ls → HoldsLocal frame k × (k.number ≡ n)
held_at frame [] n k e holds = absurd cc
held_at frame (l ∷ ls) n k e holds =
    found_case frame l ls n k (l.number == n) refl holds (held_at frame ls n k) e

pub local_held
    : (frame : Frame) (c : Context) (n : ℕ) (k : Local) → local_at c n ≡ Some k → HoldsLocals frame c.locals
    → HoldsLocal frame k × (k.number ≡ n)
local_held frame c n k e holds = held_at frame c.locals n k e holds

-- ## Narrowing

-- a local does not hold undefined
abbrev pub IsThere : Frame → ℕ → Type 0
IsThere frame n = local_value frame n ≡ plain.Undefined → ⊥

there_held
    : (frame : Frame) (n : ℕ) (o : Option TypeData) → IsThere frame n → IfSome o (λ t. HasType (local_value frame n) t)
    → IfSome (option_map without_undefined o) (λ t. HasType (local_value frame n) t)
there_held frame n None there h = tt
there_held frame n (Some t) there h = has_without (local_value frame n) t there h

narrow_hold_held
    : (frame : Frame) (c : Context) (n : ℕ) (o : Option TypeData) (hold : Hold) → IsThere frame n
    → IfSome o (λ t. HasType (local_value frame n) t) → HoldsLocals frame c.locals
    → HoldsLocals frame (narrow_held n o hold c).locals
narrow_hold_held frame c n o Fixed there h holds = (there_held frame n o there h, holds)
narrow_hold_held frame c n o Variable there h holds = holds
narrow_hold_held frame c n o Captured there h holds = holds

narrow_local_held
    : (frame : Frame) (c : Context) (n : ℕ) (o : Option Local) → local_at c n ≡ o → IsThere frame n
    → HoldsLocals frame c.locals → HoldsLocals frame (narrow_local n o c).locals
narrow_local_held frame c n None is there holds = holds
narrow_local_held frame c n (Some l) is there holds =
    let h = local_held frame c n l is holds in
    narrow_hold_held frame c n l.type_data l.hold there
    (subst (λ k. IfSome l.type_data (λ t. HasType (local_value frame k) t)) h.1 h.0) holds

-- what a condition that came out so says of a frame: its local is there, if it says so of one
abbrev pub SaysThere : Frame → Bool → Option Told → Type 0
SaysThere frame outcome None = Unit {0}
SaysThere frame outcome (Some t) = outcome ≡ t.1 → IsThere frame t.0

outcomes_same : (a b : Bool) → beq a b ≡ true → a ≡ b
outcomes_same true true e = refl
outcomes_same true false e = absurd cc
outcomes_same false true e = absurd cc
outcomes_same false false e = refl

told_case
    : (frame : Frame) (c : Context) (outcome : Bool) (t : Told) (b : Bool) → beq outcome t.1 ≡ b
    → (outcome ≡ t.1 → IsThere frame t.0) → HoldsLocals frame c.locals
    → HoldsLocals frame (narrow_told outcome (Some t) c).locals
told_case frame c outcome t true is says holds =
    rw (is, narrow_told) (narrow_local_held frame c t.0 (local_at c t.0) refl (says (outcomes_same outcome t.1 is)) holds)
told_case frame c outcome t false is says holds = rw (is, narrow_told) holds

narrow_told_held
    : (frame : Frame) (c : Context) (outcome : Bool) (o : Option Told) → SaysThere frame outcome o
    → HoldsLocals frame c.locals → HoldsLocals frame (narrow_told outcome o c).locals
narrow_told_held frame c outcome None says holds = holds
narrow_told_held frame c outcome (Some t) says holds = told_case frame c outcome t (beq outcome t.1) refl says holds

pub narrowed_held
    : (frame : Frame) (c : Context) (outcome : Bool) (e : ExprData) → SaysThere frame outcome (told e)
    → HoldsLocals frame c.locals → HoldsLocals frame (narrowed outcome e c).locals
unfolding narrowed
narrowed_held frame c outcome e says holds = narrow_told_held frame c outcome (told e) says holds
