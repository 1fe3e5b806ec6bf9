-- What the reader of parts meets.
use Rattle.std.proofs.Common.{◌≡◌, ◌≢◌, ℕ, zero, suc, ◌^◌, ◌<◌, Bool, true, false, cond, ◌&&◌, ◌||◌, ◌==◌, ltb, List, [], ◌∷◌, length, get_or, Option, Some, None, Result, Ok, Err, inl, inr, refl, sym, ap, subst, ◌∙◌, arith}
use Rattle.std.specs.Borrow.{Bor}
use Rattle.std.specs.Fmt.{decimal}
use Rattle.std.specs.Prelude.{MatchOption}
use Rattle.std.specs.Result.{OkIff}
use Rattle.std.specs.Str.{IsUtf8, bytes_eq}
use Rattle.std.specs.Str.Parse.{AllDigits, ParsesUnsigned, digits_value}
use Rattle.std.proofs.lemmas.Bool.{and_from, cases_Bool, lt-ltb}
use Rattle.std.proofs.lemmas.Bool.Decides.{Decides-eqb}
use Rattle.std.proofs.lemmas.Fmt.{IsAscii-decimal, decimal_is_IsNumeral, decimal-digits_value, decimal_digit, first_decimal}
use Rattle.std.proofs.lemmas.Slice.Eq.{bytes_eq-Decides}
use Rattle.std.proofs.lemmas.Str.{IsUtf8-from_ascii}
use Rattle.std.proofs.lemmas.Str.Parse.{IsNumeralModel, parse_plain}
use Rattle.hex.specs.Hex.{encode_lower}
use Rattle.bx_tree.specs.Headers.{HasNo, IsSplitOnce}
use Rattle.bx_digest.specs.Digests.{IsDigest, IsHexText}
use Rattle.bx_digest.proofs.HexTexts.{hex_text_of_digest}
use Rattle.prints.specs.Parts.{named_digest, named_number, odd_start, part_at}
use Rattle.prints.specs.PartForms.{Lacks, digest_again, digest_sound, number_sound, no_part, part_again}

-- ## Cuts

lacks : (end : ℕ) (text : List ℕ) → HasNo end text → Lacks end text
lacks end [] h = tt
lacks end (b ∷ bs) h = (differs, lacks end bs h.1)
  where
    differs : (b == end) ≡ false
    differs = elim (cases_Bool (b == end)) [ inl same ↦ absurd (h.0 ((Decides-eqb b end).0 same)) | inr e ↦ e ]

-- the cut at the first such byte of a text
pub part_by_cut : (end : ℕ) (text : List ℕ) (r : Option (Bor (List ℕ) × Bor (List ℕ)))
    → MatchOption r (HasNo end text) (λ parts. IsSplitOnce end text parts.0.now parts.1.now)
    → MatchOption r (part_at end text ≡ None) (λ parts. part_at end text ≡ Some (parts.0.now, parts.1.now))
part_by_cut end text None h = no_part end text (lacks end text h)
part_by_cut end text (Some parts) h = ap (part_at end) h.1 ∙ part_again end parts.0.now parts.1.now (lacks end parts.0.now h.0)

-- ## Digests

pub digest_found : (text digest : List ℕ) → encode_lower digest ≡ text → IsDigest digest → named_digest text ≡ Some digest
digest_found text digest is h = ap named_digest (sym is) ∙ digest_again digest h

pub no_digest : (text : List ℕ) → (IsHexText text → ⊥) → named_digest text ≡ None
no_digest text none = by_option (named_digest text) refl
  where
    by_option : (o : Option (List ℕ)) → named_digest text ≡ o → o ≡ None
    by_option None e = refl
    by_option (Some digest) e =
        let s = digest_sound text digest e in
        absurd (none (subst IsHexText (sym s.1) (hex_text_of_digest digest s.0)))

-- ## Numbers

by_number : (text : List ℕ) → ((n : ℕ) → n < 2 ^ 64 → text ≡ decimal n → ⊥) → named_number text ≡ None
by_number text none = by_option (named_number text) refl
  where
    by_option : (o : Option ℕ) → named_number text ≡ o → o ≡ None
    by_option None e = refl
    by_option (Some n) e = let s = number_sound text n e in absurd (none n s.0 s.1)

pub no_utf8 : (text : List ℕ) → (IsUtf8 text → ⊥) → named_number text ≡ None
no_utf8 text none = by_number text (λ n small is. none (subst IsUtf8 (sym is) (IsUtf8-from_ascii (decimal n) (IsAscii-decimal n small))))

-- a number neither begins with a sign nor with a zero before something else
even_start : (n : ℕ) → n < 2 ^ 64 → odd_start (decimal n) ≡ false
even_start zero small = ap odd_start (decimal_digit 0 (omega arith))
even_start (suc n) small = above (decimal (suc n)) (first_decimal (suc n) (omega arith) small)
  where
    above : (text : List ℕ) → 48 < get_or text 0 0 → odd_start text ≡ false
    above [] l = absurd (omega (arith, l))
    above (b ∷ bs) l = tests (b == 43) (b == 48) (other 43 (omega (arith, l))) (other 48 (omega (arith, l)))
      where
        other : (k : ℕ) → (b ≡ k → ⊥) → (b == k) ≡ false
        other k differs = elim (cases_Bool (b == k)) [ inl same ↦ absurd (differs ((Decides-eqb b k).0 same)) | inr e ↦ e ]

        tests : (s t : Bool) → s ≡ false → t ≡ false → (s || (t && ltb 0 (length bs))) ≡ false
        tests true t e f = cc
        tests false true e f = cc
        tests false false e f = refl

pub odd_number : (text : List ℕ) → odd_start text ≡ true → named_number text ≡ None
odd_number text odd = by_number text (λ n small is. let clash : true ≡ false = sym odd ∙ ap odd_start is ∙ even_start n small in cc)

own : IsNumeralModel (AllDigits 10) (digits_value 10)
own = record { to = λ ds d. d; from = λ ds d. d; same = λ ds d. refl }

no_sign : (text : List ℕ) → odd_start text ≡ false → get_or text 0 0 ≢ 43
no_sign [] even e = omega (arith, e)
no_sign (b ∷ bs) even e = clash (b == 43) ((Decides-eqb b 43).1 e) even
  where
    clash : (t : Bool) → t ≡ true → (t || (b == 48 && ltb 0 (length bs))) ≡ false → ⊥
    clash true same e = cc
    clash false same e = cc

zero_alone : (text : List ℕ) → odd_start text ≡ false → get_or text 0 0 ≡ 48 → length text ≡ 1
zero_alone [] even e = omega (arith, e)
zero_alone (b ∷ []) even e = refl
zero_alone (b ∷ c ∷ cs) even e =
    absurd (clash (b == 43) (b == 48) (ltb 0 (length (c ∷ cs))) ((Decides-eqb b 48).1 e) (lt-ltb 0 (length (c ∷ cs)) (omega arith)) even)
  where
    clash : (s t u : Bool) → t ≡ true → u ≡ true → (s || (t && u)) ≡ false → ⊥
    clash true t u same more e = cc
    clash false true true same more e = cc
    clash false true false same more e = cc
    clash false false u same more e = cc

pub number_parsed : {E : Type 0} (text : List ℕ) (n : ℕ) (r : Result ℕ E) → odd_start text ≡ false → ParsesUnsigned 64 10 text r → r ≡ Ok n → named_number text ≡ Some n
number_parsed {E = E} text n r even parses ok = by_result r ok (parse_plain own 64 text r parses (no_sign text even))
  where
    value : ℕ
    value = digits_value 10 text

    by_result : (r : Result ℕ E) → r ≡ Ok n → OkIff r (AllDigits 10 text × (0 < length text) × (digits_value 10 text < 2 ^ 64)) (digits_value 10 text) → named_number text ≡ Some n
    by_result (Ok m) ok h =
        let same : digits_value 10 text ≡ n = sym h.1 ∙ (cc) in
        let written : decimal (digits_value 10 text) ≡ text = decimal-digits_value own text h.0.0 h.0.1 (zero_alone text even) h.0.2 in
        ap (λ b. cond b (Some (digits_value 10 text)) None)
        (and_from (ltb (digits_value 10 text) (2 ^ 64)) (bytes_eq (decimal (digits_value 10 text)) text) (lt-ltb (digits_value 10 text) (2 ^ 64) h.0.2) ((bytes_eq-Decides (decimal (digits_value 10 text)) text).1 written))
        ∙ ap Some same
    by_result (Err e) ok h = absurd cc

pub not_parsed : {E : Type 0} (text : List ℕ) (e : E) (r : Result ℕ E) → odd_start text ≡ false → ParsesUnsigned 64 10 text r → r ≡ Err e → named_number text ≡ None
not_parsed {E = E} text e r even parses err = by_result r err (parse_plain own 64 text r parses (no_sign text even))
  where
    by_result : (r : Result ℕ E) → r ≡ Err e → OkIff r (AllDigits 10 text × (0 < length text) × (digits_value 10 text < 2 ^ 64)) (digits_value 10 text) → named_number text ≡ None
    by_result (Ok m) err h = absurd cc
    by_result (Err f) err h = by_number text (λ n small is.
        let d = decimal_is_IsNumeral n small in
        h (subst (λ t. AllDigits 10 t) (sym is) d.0.1, subst (λ t. 0 < length t) (sym is) d.0.0, omega (arith, ap (digits_value 10) is, d.1, small)))
