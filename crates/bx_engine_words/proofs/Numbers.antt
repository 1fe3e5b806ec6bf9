-- The texts of numbers, and what reading one comes to.
use Rattle.std.proofs.Common.{◌≡◌, ◌≢◌, ℕ, zero, suc, ◌^◌, ◌<◌, Bool, true, false, ◌&&◌, ◌||◌, ◌==◌, ltb, List, [], ◌∷◌, length, get_or, Option, Result, Ok, Err, inl, inr, refl, sym, ap, subst, ◌∙◌, arith}
use Rattle.std.specs.Prelude.{MatchOption}
use Rattle.std.specs.Fmt.{decimal}
use Rattle.std.specs.Result.{OkIff, result_ok}
use Rattle.std.specs.Str.Parse.{AllDigits, ParsesUnsigned, digits_value}
use Rattle.std.proofs.lemmas.Bool.{cases_Bool, lt-ltb}
use Rattle.std.proofs.lemmas.Bool.Decides.{Decides-eqb}
use Rattle.std.proofs.lemmas.Fmt.{decimal_is_IsNumeral, decimal-digits_value, decimal_digit, first_decimal}
use Rattle.std.proofs.lemmas.Str.Parse.{IsNumeralModel, parse_plain}
use Rattle.bx_engine_words.specs.Settings.{odd_start}

-- a number neither begins with a sign nor with a zero before something else
even_start : (n : ℕ) → n < 2 ^ 64 → odd_start (decimal n) ≡ false
even_start zero small = ap odd_start (decimal_digit 0 (omega arith))
even_start (suc n) small = above (decimal (suc n)) (first_decimal (suc n) (omega arith) small)
  where
    above : (text : List ℕ) → 48 < get_or text 0 0 → odd_start text ≡ false
    above [] l = absurd (omega (arith, l))
    above (b ∷ bs) l = tests (b == 43) (b == 48) (other 43 (omega (arith, l))) (other 48 (omega (arith, l)))
      where
        other : (k : ℕ) → (b ≡ k → ⊥) → (b == k) ≡ false
        other k differs = elim (cases_Bool (b == k)) [ inl same ↦ absurd (differs ((Decides-eqb b k).0 same)) | inr e ↦ e ]

        tests : (s t : Bool) → s ≡ false → t ≡ false → (s || (t && ltb 0 (length bs))) ≡ false
        tests true t e f = cc
        tests false true e f = cc
        tests false false e f = refl

true_not : (b : Bool) → b ≡ true → b ≡ false → ⊥
true_not b e f = cc

-- no number has such a start
pub odd_number : (text : List ℕ) (n : ℕ) → odd_start text ≡ true → n < 2 ^ 64 → text ≡ decimal n → ⊥
odd_number text n odd small is = true_not (odd_start text) odd (ap odd_start is ∙ even_start n small)

own : IsNumeralModel (AllDigits 10) (digits_value 10)
own = record { to = λ ds d. d; from = λ ds d. d; same = λ ds d. refl }

no_sign : (text : List ℕ) → odd_start text ≡ false → get_or text 0 0 ≢ 43
no_sign [] even e = omega (arith, e)
no_sign (b ∷ bs) even e = clash (b == 43) ((Decides-eqb b 43).1 e) even
  where
    clash : (t : Bool) → t ≡ true → (t || (b == 48 && ltb 0 (length bs))) ≡ false → ⊥
    clash true same e = cc
    clash false same e = cc

zero_alone : (text : List ℕ) → odd_start text ≡ false → get_or text 0 0 ≡ 48 → length text ≡ 1
zero_alone [] even e = omega (arith, e)
zero_alone (b ∷ []) even e = refl
zero_alone (b ∷ c ∷ cs) even e =
    absurd (clash (b == 43) (b == 48) (ltb 0 (length (c ∷ cs))) ((Decides-eqb b 48).1 e) (lt-ltb 0 (length (c ∷ cs)) (omega arith)) even)
  where
    clash : (s t u : Bool) → t ≡ true → u ≡ true → (s || (t && u)) ≡ false → ⊥
    clash true t u same more e = cc
    clash false true true same more e = cc
    clash false true false same more e = cc
    clash false false u same more e = cc

-- what a parser of 64 bits gives for a text of another start
number_parsed : {E : Type 0} (text : List ℕ) (r : Result ℕ E) → odd_start text ≡ false → ParsesUnsigned 64 10 text r
    → MatchOption (result_ok r) ((n : ℕ) → n < 2 ^ 64 → text ≡ decimal n → ⊥) (λ n. (n < 2 ^ 64) × (text ≡ decimal n))
number_parsed {E = E} text r even parses = by_result r (parse_plain own 64 text r parses (no_sign text even))
  where
    by_result : (r : Result ℕ E) → OkIff r (AllDigits 10 text × (0 < length text) × (digits_value 10 text < 2 ^ 64)) (digits_value 10 text)
        → MatchOption (result_ok r) ((n : ℕ) → n < 2 ^ 64 → text ≡ decimal n → ⊥) (λ n. (n < 2 ^ 64) × (text ≡ decimal n))
    by_result (Ok m) h = (
      omega (arith, h.0.2, h.1),
      sym (decimal-digits_value own text h.0.0 h.0.1 (zero_alone text even) h.0.2) ∙ ap decimal (sym h.1),
    )
    by_result (Err e) h = λ n small is.
        let d = decimal_is_IsNumeral n small in
        h (subst (λ t. AllDigits 10 t) (sym is) d.0.1, subst (λ t. 0 < length t) (sym is) d.0.0, omega (arith, ap (digits_value 10) is, d.1, small))

pub number_read : {E : Type 0} (text : List ℕ) (found : Option ℕ) (r : Result ℕ E) → odd_start text ≡ false
    → ParsesUnsigned 64 10 text r → found ≡ result_ok r
    → MatchOption found ((n : ℕ) → n < 2 ^ 64 → text ≡ decimal n → ⊥) (λ n. (n < 2 ^ 64) × (text ≡ decimal n))
number_read text found r even parses is =
    subst (λ (o : Option ℕ). MatchOption o ((n : ℕ) → n < 2 ^ 64 → text ≡ decimal n → ⊥) (λ n. (n < 2 ^ 64) × (text ≡ decimal n))) (sym is)
    (number_parsed text r even parses)
