-- A frame has a value for each local of its function.
use Rattle.std.proofs.Common.{◌≡◌, ◌⊎◌, ℕ, zero, suc, ◌-◌, ◌<◌, ◌==◌, Bool, true, false, cond, nat_lt, List, [], ◌∷◌, length, take, Option, Some, refl, ap, inl, inr, arith}
use Rattle.std.specs.Prelude.{IsSome, slice_get, slice_set, unwrap_or}
use Rattle.std.specs.List.{AllByRecursion}
use Rattle.std.proofs.lemmas.Bool.{eq-eqb, le-ltb, lt-ltb}
use Rattle.bx_tree.specs.Members.{Has}
use Rattle.bx_tree.proofs.Members.{has_all}
use Rattle.dscript_program.specs.ProgramData.{FunctionData}
use Rattle.dscript_value.specs.Plain.{Plain, Undefined}
use Rattle.dscript_eval_meaning.specs.Frames.{captured_value, captures, filled, function_frame, local_value, with_local}
use Rattle.dscript_eval_meaning.specs.States.{Frame, State}
use Rattle.dscript_eval_laws.specs.FoundLocals.{IsLocalOf, found_local, held_at}

-- ## What is found is what the local holds

first_or : (b : Bool) (x : Plain) (o : Option Plain) (v : Plain) → unwrap_or o Undefined ≡ v → unwrap_or (cond b (Some x) o) Undefined ≡ cond b x v
first_or true x o v e = refl
first_or false x o v e = e

held_same : (cs : List ℕ) (held : List Plain) (n : ℕ) → unwrap_or (held_at cs held n) Undefined ≡ captured_value cs held n
held_same [] held n = refl
held_same (c ∷ cs) [] n = refl
held_same (c ∷ cs) (x ∷ xs) n = first_or (c == n) x (held_at cs xs n) (captured_value cs xs n) (held_same cs xs n)

either_way : (b : Bool) (o p : Option Plain) (v w : Plain) → unwrap_or o Undefined ≡ v → unwrap_or p Undefined ≡ w → unwrap_or (cond b o p) Undefined ≡ cond b v w
either_way true o p v w e g = e
either_way false o p v w e g = g

pub found_is : (f : Frame) (n : ℕ) → unwrap_or (found_local f n) Undefined ≡ local_value f n
found_is f n =
    either_way (nat_lt n f.first) (held_at f.captured f.held n) (slice_get f.own (n - f.first)) (captured_value f.captured f.held n)
    (unwrap_or (slice_get f.own (n - f.first)) Undefined) (held_same f.captured f.held n) refl

-- ## A frame begins with all locals

some_first : (b : Bool) (x : Plain) (o : Option Plain) → (b ≡ true) ⊎ IsSome o → IsSome (cond b (Some x) o)
some_first true x o h = refl
some_first false x o h = elim h [ inl e ↦ absurd cc | inr k ↦ k ]

held_some : (cs : List ℕ) (held : List Plain) (n : ℕ) → length held ≡ length cs → Has cs n → IsSome (held_at cs held n)
held_some [] held n e h = absurd h
held_some (c ∷ cs) [] n e h = absurd (omega (arith, e))
held_some (c ∷ cs) (x ∷ xs) n e h =
    some_first (c == n) x (held_at cs xs n) (elim h [ inl same ↦ inl (eq-eqb c n same) | inr later ↦ inr (held_some cs xs n (omega (arith, e)) later) ])

within_some : {X : Type 0} (xs : List X) (k : ℕ) → k < length xs → IsSome (slice_get xs k)
within_some [] k l = absurd (omega (arith, l))
within_some (x ∷ xs) zero l = refl
within_some (x ∷ xs) (suc k) l = within_some xs k (omega (arith, l))

filled_length : (n : ℕ) (xs : List Plain) → length (filled n xs) ≡ n
filled_length zero xs = refl
filled_length (suc n) [] = ap suc (filled_length n [])
filled_length (suc n) (x ∷ xs) = ap suc (filled_length n xs)

chosen_true : (b : Bool) (o p : Option Plain) → b ≡ true → IsSome o → IsSome (cond b o p)
chosen_true true o p e h = h
chosen_true false o p e h = absurd cc

chosen_false : (b : Bool) (o p : Option Plain) → b ≡ false → IsSome p → IsSome (cond b o p)
chosen_false true o p e h = absurd cc
chosen_false false o p e h = h

pub begins_whole
    : (g : FunctionData) (held args : List Plain) → AllByRecursion (λ n. n < g.first_local) g.captured → length held ≡ length g.captured
    → (n : ℕ) → IsLocalOf g n → IsSome (found_local (function_frame g held args) n)
begins_whole g held args low same n h =
    let own = filled g.local_count (take (length g.params) args) in
    elim h [
      | inl captured ↦
          chosen_true (nat_lt n g.first_local) (held_at g.captured held n) (slice_get own (n - g.first_local))
          (lt-ltb n g.first_local (has_all (λ m. m < g.first_local) g.captured n low captured)) (held_some g.captured held n same captured)
      | inr mine ↦
          chosen_false (nat_lt n g.first_local) (held_at g.captured held n) (slice_get own (n - g.first_local)) (le-ltb n g.first_local mine.0)
          (within_some own (n - g.first_local) (omega (arith, mine.0, mine.1, filled_length g.local_count (take (length g.params) args))))
    ]

-- ## It keeps them

still_some : {X : Type 0} (xs : List X) (i k : ℕ) (x : X) → IsSome (slice_get xs k) → IsSome (slice_get (slice_set xs i x) k)
still_some [] i k x h = h
still_some (y ∷ ys) zero zero x h = refl
still_some (y ∷ ys) zero (suc k) x h = h
still_some (y ∷ ys) (suc i) zero x h = refl
still_some (y ∷ ys) (suc i) (suc k) x h = still_some ys i k x h

chosen_still : (b : Bool) (o p q : Option Plain) → (IsSome p → IsSome q) → IsSome (cond b o p) → IsSome (cond b o q)
chosen_still true o p q f h = h
chosen_still false o p q f h = f h

pub keeps_whole : (f : Frame) (m : ℕ) (x : Plain) (n : ℕ) → IsSome (found_local f n) → IsSome (found_local (with_local m x f) n)
keeps_whole f m x n h =
    chosen_still (nat_lt n f.first) (held_at f.captured f.held n) (slice_get f.own (n - f.first)) (slice_get (slice_set f.own (m - f.first) x) (n - f.first))
    (still_some f.own (m - f.first) (n - f.first) x) h

-- ## As many are held as are captured

pub as_many_held : (locals : List ℕ) (s : State) → length (captures locals s) ≡ length locals
as_many_held [] s = refl
as_many_held (n ∷ ns) s = ap suc (as_many_held ns s)
