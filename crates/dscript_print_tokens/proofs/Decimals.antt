-- The decimal digits of a number are a spelling of it.
use Rattle.std.proofs.Common.{◌≡◌, ℕ, zero, suc, ◌+◌, ◌*◌, ◌/◌, ◌%◌, ◌^◌, ◌<◌, ◌≤◌, Bool, true, false, eqb, leb, List, [], ◌∷◌, ◌++◌, length, Some, None, pos, refl, sym, ap, ◌∙◌, arith}
use Rattle.std.specs.List.{list_all}
use Rattle.std.specs.Char.{is_ascii_digit}
use Rattle.std.specs.Fmt.{decimal}
use Rattle.std.proofs.lemmas.Bool.{cond-true, cond-false, and_parts, and_from, le-leb, or_right}
use Rattle.std.proofs.lemmas.Bool.Decides.{nat_tests}
use Rattle.std.proofs.lemmas.Fmt.{decimal_by_steps, decimal_digit}
use Rattle.std.proofs.lemmas.List.Folds.{list_all-append}
use Rattle.std.proofs.lemmas.List.Sums.{fold_push}
use Rattle.dscript_lex.specs.declared.limits.TheConstants.{MAX_NUMBER}
use Rattle.dscript_lex.specs.declared.token.TokenKind.TheVariants.{Number}
use Rattle.dscript_lex.specs.declared.lexeme.LexemeKind.TheVariants.{Spelled}
use Rattle.dscript_lex.specs.declared.opening.Opening.TheVariants as openings
use Rattle.dscript_lex.specs.Bytes.{is_blank, is_word_start, is_word_byte, digit_value, begins_with}
use Rattle.dscript_lex.specs.Lexemes.{opening_of, value_in, at_most_max, number_of, number_lexeme, lexeme_as, lexeme_of}

abbrev is_zero : ℕ → Bool
is_zero d = eqb d 0x30

-- the digits of a number, which begin with no zero unless the number is zero
pub record AreDigits (n : ℕ) (ds : List ℕ) : Type 0 where
  pub digits : list_all is_ascii_digit ds ≡ true
  pub value : value_in 10 ds ≡ n
  pub first : 0 < n → begins_with is_zero ds ≡ false
  pub some : 0 < length ds

digit_passes : (m : ℕ) → m < 10 → is_ascii_digit (48 + m) ≡ true
digit_passes m lt = grind (arith, nat_tests)

digit_counts : (m : ℕ) → m < 10 → digit_value (48 + m) ≡ m
digit_counts m lt = grind (arith, nat_tests)

digit_first : (m : ℕ) → m < 10 → 0 < m → is_zero (48 + m) ≡ false
digit_first m lt some = grind (arith, nat_tests)

begins_same : (p : ℕ → Bool) (xs ys : List ℕ) → 0 < length xs → begins_with p (xs ++ ys) ≡ begins_with p xs
begins_same p [] ys some = absurd (omega arith)
begins_same p (x ∷ xs) ys some = refl

one_digit : (n : ℕ) → n < 10 → AreDigits n ((48 + n) ∷ [])
one_digit n lt = record {
  digits = and_from (is_ascii_digit (48 + n)) true (digit_passes n lt) refl;
  value = omega (arith, digit_counts n lt);
  first = digit_first n lt;
  some = omega arith;
}

more_digits : (n : ℕ) (ds : List ℕ) → 10 ≤ n → AreDigits (n / 10) ds → AreDigits n (ds ++ (48 + n % 10) ∷ [])
more_digits n ds large are =
    let last : n % 10 < 10 = omega arith in
    record {
      digits = list_all-append is_ascii_digit ds ((48 + n % 10) ∷ []) ∙ and_from (list_all is_ascii_digit ds) _ are.digits (and_from (is_ascii_digit (48 + n % 10)) true (digit_passes (n % 10) last) refl);
      value = fold_push (λ m d. 10 * m + digit_value d) 0 ds (48 + n % 10) ∙ omega (arith, are.value, digit_counts (n % 10) last);
      first = λ some. begins_same is_zero ds ((48 + n % 10) ∷ []) are.some ∙ are.first (omega arith);
      some = omega (arith, length_more ds (48 + n % 10));
    }
  where
    length_more : (xs : List ℕ) (x : ℕ) → 0 < length (xs ++ x ∷ [])
    length_more [] x = omega arith
    length_more (y ∷ xs) x = omega arith

pub decimal_digits : (n : ℕ) → n < 2 ^ 64 → AreDigits n (decimal n)
decimal_digits = decimal_by_steps AreDigits one_digit more_digits

no_blank : (d : ℕ) → is_ascii_digit d ≡ true → is_blank d ≡ false
no_blank d digit = grind (arith, nat_tests)

no_word_start : (d : ℕ) → is_ascii_digit d ≡ true → is_word_start d ≡ false
no_word_start d digit = grind (arith, nat_tests)

opens_number : (hole : Bool) (d : ℕ) → is_ascii_digit d ≡ true → opening_of hole d ≡ openings.Number
opens_number hole d digit = cond-false (is_blank d) _ _ (no_blank d digit) ∙ cond-false (is_word_start d) _ _ (no_word_start d digit) ∙ cond-true (is_ascii_digit d) _ _ digit

digits_number : (n : ℕ) (ds : List ℕ) → AreDigits n ds → 0 < n → n ≤ MAX_NUMBER → number_of ds ≡ Some n
digits_number n [] are some le = absurd (omega (arith, are.some))
digits_number n (d ∷ ds) are some le =
    ap at_most_max (cond-false (is_zero d) _ _ (are.first some) ∙ cond-true (list_all is_ascii_digit (d ∷ ds)) _ None are.digits ∙ ap Some are.value)
    ∙ cond-true (leb n MAX_NUMBER) (Some n) None (le-leb n MAX_NUMBER le)

digits_lexeme : (hole : Bool) (n : ℕ) (ds : List ℕ) → AreDigits n ds → number_of ds ≡ Some n → lexeme_of hole ds ≡ Some (Spelled (Number (pos n)))
unfolding lexeme_of lexeme_as
digits_lexeme hole n [] are is = absurd (omega (arith, are.some))
digits_lexeme hole n (d ∷ ds) are is =
    ap (λ o. lexeme_as o d ds) (opens_number hole d (and_parts (is_ascii_digit d) (list_all is_ascii_digit ds) are.digits).0) ∙ ap number_lexeme is

zero_number : (n : ℕ) → n ≡ 0 → number_of (decimal n) ≡ Some n
zero_number n e = ap (λ m. number_of (decimal m)) e ∙ ap number_of (decimal_digit 0 (omega arith)) ∙ ap Some (sym e)

decimal_number : (n : ℕ) → n ≤ MAX_NUMBER → number_of (decimal n) ≡ Some n
decimal_number zero le = zero_number zero refl
decimal_number (suc n) le = digits_number (suc n) (decimal (suc n)) (decimal_digits (suc n) (omega arith)) (omega arith) le

pub number_is : (hole : Bool) (n : ℕ) → n ≤ MAX_NUMBER → lexeme_of hole (decimal n) ≡ Some (Spelled (Number (pos n)))
number_is hole n le = digits_lexeme hole n (decimal n) (decimal_digits n (omega arith)) (decimal_number n le)

begins_word : (ds : List ℕ) → 0 < length ds → list_all is_ascii_digit ds ≡ true → begins_with is_word_byte ds ≡ true
begins_word [] some digits = absurd (omega arith)
begins_word (d ∷ ds) some digits = or_right (is_word_start d) (is_ascii_digit d) (and_parts (is_ascii_digit d) (list_all is_ascii_digit ds) digits).0

pub number_begins : (n : ℕ) → n ≤ MAX_NUMBER → begins_with is_word_byte (decimal n) ≡ true
number_begins n le = let are = decimal_digits n (omega arith) in begins_word (decimal n) are.some are.digits
