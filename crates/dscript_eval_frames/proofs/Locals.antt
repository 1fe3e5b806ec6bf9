-- What captured locals hold.
use Rattle.std.proofs.Common.{◌≡◌, ℕ, zero, suc, ◌+◌, ◌<◌, ◌≤◌, cond, List, [], ◌∷◌, length, drop, map}
use Rattle.std.proofs.Common.{get_or, slice_get, unwrap_or, refl, ap, sym, ◌∙◌, arith, add-one}
use Rattle.std.proofs.lemmas.Bool.{eq-eqb, ne_eqb}
use Rattle.dscript_value.specs.Plain.{Plain, Undefined, plain_of}
use Rattle.dscript_value.specs.declared.value.Value.{Value}
use Rattle.dscript_eval_meaning.specs.Frames.{captured_value}

captured_empty : (cs : List ℕ) (n : ℕ) → captured_value cs [] n ≡ Undefined
captured_empty [] n = refl
captured_empty (c ∷ cs) n = refl

-- a local that is found holds the value in its place
pub captured_found
    : (cs : List ℕ) (xs : List Plain) (i n d : ℕ) → i < length cs → get_or cs i d ≡ n
    → captured_value (drop i cs) (drop i xs) n ≡ unwrap_or (slice_get xs i) Undefined
captured_found [] xs i n d less is = absurd (omega (arith, less))
captured_found (c ∷ cs) [] zero n d less is = refl
captured_found (c ∷ cs) [] (suc i) n d less is = captured_empty (drop i cs) n
captured_found (c ∷ cs) (x ∷ xs) zero n d less is = ap (λ b. cond b x (captured_value cs xs n)) (eq-eqb c n is)
captured_found (c ∷ cs) (x ∷ xs) (suc i) n d less is = captured_found cs xs i n d (omega (arith, less)) is

pub next_captured
    : (cs : List ℕ) (xs : List Plain) (i n d : ℕ) → i < length cs → (get_or cs i d ≡ n → ⊥)
    → captured_value (drop i cs) (drop i xs) n ≡ captured_value (drop (suc i) cs) (drop (suc i) xs) n
next_captured [] xs i n d less other = absurd (omega (arith, less))
next_captured (c ∷ cs) [] zero n d less other = sym (captured_empty cs n)
next_captured (c ∷ cs) [] (suc i) n d less other =
    captured_empty (drop i cs) n ∙ sym (captured_empty (drop (suc i) cs) n)
next_captured (c ∷ cs) (x ∷ xs) zero n d less other =
    ap (λ b. cond b x (captured_value cs xs n)) (ne_eqb c n other)
next_captured (c ∷ cs) (x ∷ xs) (suc i) n d less other = next_captured cs xs i n d (omega (arith, less)) other

-- another local is passed over
pub captured_next
    : (cs : List ℕ) (xs : List Plain) (i n d : ℕ) → i < length cs → (get_or cs i d ≡ n → ⊥)
    → captured_value (drop i cs) (drop i xs) n ≡ captured_value (drop (i + 1) cs) (drop (i + 1) xs) n
captured_next cs xs i n d less other =
    next_captured cs xs i n d less other
    ∙ ap (λ k. captured_value (drop k cs) (drop k xs) n) (sym (add-one i))

-- a local that is not captured holds no value
pub captured_end
    : (cs : List ℕ) (xs : List Plain) (i n : ℕ) → length cs ≤ i
    → captured_value (drop i cs) (drop i xs) n ≡ Undefined
captured_end [] xs zero n le = refl
captured_end [] xs (suc i) n le = refl
captured_end (c ∷ cs) xs zero n le = absurd (omega (arith, le))
captured_end (c ∷ cs) [] (suc i) n le = captured_empty (drop i cs) n
captured_end (c ∷ cs) (x ∷ xs) (suc i) n le = captured_end cs xs i n (omega (arith, le))

pub ruleset captures = (captured_found, captured_next, captured_end)

-- where there are fewer values, there is none
pub no_value
    : (xs : List Value) (n : ℕ) → length xs ≤ n → unwrap_or (slice_get (map plain_of xs) n) Undefined ≡ Undefined
no_value [] n le = refl
no_value (x ∷ xs) zero le = absurd (omega (arith, le))
no_value (x ∷ xs) (suc n) le = no_value xs n (omega (arith, le))
