-- The parts of a header, and that a text starts with at most one header.
use Rattle.std.proofs.Common.{lit≤, ◌^◌, ◌≡◌, ◌≢◌, ℕ, ◌<◌, ◌≤◌, ◌+◌, ◌-◌, ◌*◌, List, [], ◌∷◌, ◌++◌, length, get_or, take, codes, refl, ap, sym, ◌∙◌, subst, arith, append_assoc}
use Rattle.std.specs.Char.{digit_value}
use Rattle.std.specs.Int.{IsInRange}
use Rattle.std.specs.List.{AllByRecursion}
use Rattle.std.specs.Str.Parse.{AllDigits, digits_value}
use Rattle.std.specs.Fmt.{decimal}
use Rattle.std.proofs.lemmas.Int.Digits.{digits_value_more}
use Rattle.std.proofs.lemmas.List.{append_cancel_left}
use Rattle.std.proofs.lemmas.Str.{digit_value_digit}
use Rattle.std.proofs.lemmas.Str.Parse.{tells_digits, digit_at, digits_value-take-le, numerals_by_value}
use Rattle.std.proofs.lemmas.Fmt.{decimal-digits_value}
use Rattle.bx_tree.specs.Bundle.{Header, StartsWithHeader, IsLength}

-- ## Lengths

pub digits_from_range : (bs : List ℕ) → AllByRecursion (λ b. IsInRange 48 57 b) bs → AllDigits 10 bs
digits_from_range [] h = tells_digits.empty
digits_from_range (b ∷ bs) h = tells_digits.more b bs h.0 (digits_from_range bs h.1)

pub range_from_digits : (bs : List ℕ) → AllDigits 10 bs → AllByRecursion (λ b. IsInRange 48 57 b) bs
range_from_digits [] h = tt
range_from_digits (b ∷ bs) h = let parts = tells_digits.parts b bs h in (parts.0, range_from_digits bs parts.1)

-- digits that do not begin with a zero are a length
pub length_with : (bs : List ℕ) → 0 < length bs → get_or bs 0 0 ≢ 48 → AllByRecursion (λ b. IsInRange 48 57 b) bs → IsLength bs
length_with bs some first all = record {
  some = λ e. omega (arith, some, ap length e);
  digits = digits_from_range bs all;
  no_zero = λ more e. absurd (first (ap (λ t. get_or t 0 0) e));
}

pub zero_alone : (bs : List ℕ) → get_or bs 0 0 ≡ 48 → (length bs ≡ 1 → IsLength bs) × (IsLength bs → length bs ≡ 1)
zero_alone [] e = (λ l. absurd (omega (arith, l)), λ h. absurd (h.some refl))
zero_alone (b ∷ []) e = (
  λ _. record {
    some = λ z. cc;
    digits = digits_from_range (b ∷ []) (subst (IsInRange 48 57) (sym e) (lit≤ tt, lit≤ tt), tt);
    no_zero = λ more z. cc;
  },
  λ _. refl,
)
zero_alone (b ∷ d ∷ bs) e = (λ l. absurd (omega (arith, l)), λ h. absurd (omega (arith, ap length (h.no_zero (d ∷ bs) (ap (λ x. x ∷ d ∷ bs) e)))))

pub digit_is : (c : ℕ) → IsInRange 48 57 c → digit_value c ≡ c - 48
digit_is c h = omega (arith, digit_value_digit c h)

pub at_least : (bs : List ℕ) (i : ℕ) → IsLength bs → i < length bs → 48 ≤ get_or bs i 0
at_least bs i h l = (digit_at bs i h.digits l).0

-- the value of a prefix with one more digit
pub value_more : (bs : List ℕ) (i n : ℕ) → IsLength bs → i < length bs → n ≡ digits_value 10 (take i bs)
    → 10 * n + (get_or bs i 0 - 48) ≡ digits_value 10 (take (i + 1) bs)
value_more bs i n h l e =
    let d = digit_is (get_or bs i 0) (digit_at bs i h.digits l) in
    omega (arith, e, d, digits_value_more 10 bs i l)

-- if the value of a prefix is over a limit, so is that of the whole
pub value_over : (bs : List ℕ) (i n k : ℕ) → n ≡ digits_value 10 (take i bs) → k < n → k < digits_value 10 bs
value_over bs i n k e l = omega (arith, e, l, digits_value-take-le 10 bs i (lit≤ tt))

pub no_blank : (bs : List ℕ) → AllDigits 10 bs → AllByRecursion (λ b. b ≢ 32) bs
no_blank [] h = tt
no_blank (b ∷ bs) h = let parts = tells_digits.parts b bs h in ((λ e. omega (arith, e, parts.0.0)), no_blank bs parts.1)

pub not_none : (bs : List ℕ) → IsLength bs → 0 < length bs
not_none [] h = absurd (h.some refl)
not_none (b ∷ bs) h = omega arith

-- a length is the decimal text of its value
pub decimal-length : (bs : List ℕ) → IsLength bs → digits_value 10 bs < 2 ^ 64 → decimal (digits_value 10 bs) ≡ bs
decimal-length bs h l =
    decimal-digits_value (numerals_by_value (AllDigits 10) tells_digits) bs h.digits (not_none bs h) (λ e. (zero_alone bs e).1 h) l

-- ## Splits

pub at_split : {X : Type 0} (P : X → Type 0) (xs : List X) (y : X) (ys : List X) → AllByRecursion P (xs ++ y ∷ ys) → P y
at_split P [] y ys h = h.0
at_split P (x ∷ xs) y ys h = at_split P xs y ys h.1

-- a list is split at the first such byte in one way
pub split_one_way : (b : ℕ) (xs ys us vs : List ℕ) → AllByRecursion (λ x. x ≢ b) xs → AllByRecursion (λ x. x ≢ b) us
    → xs ++ b ∷ ys ≡ us ++ b ∷ vs → (xs ≡ us) × (ys ≡ vs)
split_one_way b [] ys [] vs h k e = (refl, cc)
split_one_way b [] ys (u ∷ us) vs h k e = let same : b ≡ u = cc in absurd (k.0 (sym same))
split_one_way b (x ∷ xs) ys [] vs h k e = let same : x ≡ b = cc in absurd (h.0 same)
split_one_way b (x ∷ xs) ys (u ∷ us) vs h k e =
    let tails : xs ++ b ∷ ys ≡ us ++ b ∷ vs = cc in
    let rest = split_one_way b xs ys us vs h.1 k.1 tails in
    (cc, rest.1)

-- ## Headers

regroup : (f d s p n r : List ℕ) → f ++ d ++ s ++ p ++ n ++ r ≡ f ++ (d ++ (s ++ (p ++ (n ++ r))))
regroup f d s p n r = simp append_assoc

-- the text after the word of a header
pub after_word : (text : List ℕ) (h : Header) → StartsWithHeader text h → (after : List ℕ) → text ≡ codes "file " ++ after
    → after ≡ h.digits ++ 32 ∷ (h.path ++ 10 ∷ h.rest)
after_word text h b after e =
    append_cancel_left (codes "file ") after (h.digits ++ 32 ∷ (h.path ++ 10 ∷ h.rest))
    (sym e ∙ b.text_is ∙ regroup (codes "file ") h.digits (codes " ") h.path (codes "\n") h.rest)

pub begins_from : (text after digits more path rest : List ℕ) → text ≡ codes "file " ++ after → after ≡ digits ++ 32 ∷ more → more ≡ path ++ 10 ∷ rest
    → IsLength digits → AllByRecursion (λ b. b ≢ 10) path → StartsWithHeader text (record { digits = digits; path = path; rest = rest })
begins_from text after digits more path rest e f g l p = record {
  length_is = l;
  one_line = p;
  text_is = e ∙ ap (λ t. codes "file " ++ t) (f ∙ ap (λ t. digits ++ 32 ∷ t) g)
      ∙ sym (regroup (codes "file ") digits (codes " ") path (codes "\n") rest);
}

-- the text after the length of a header
pub after_length : (text after digits more : List ℕ) (h : Header) → StartsWithHeader text h → text ≡ codes "file " ++ after → after ≡ digits ++ 32 ∷ more
    → AllByRecursion (λ b. b ≢ 32) digits → (digits ≡ h.digits) × (more ≡ h.path ++ 10 ∷ h.rest)
after_length text after digits more h b e f d =
    split_one_way 32 digits more h.digits (h.path ++ 10 ∷ h.rest) d (no_blank h.digits b.length_is.digits) (sym f ∙ after_word text h b after e)

pub no_header_word : (text : List ℕ) → ((rest : List ℕ) → text ≢ codes "file " ++ rest) → (h : Header) → StartsWithHeader text h → ⊥
no_header_word text n h b = n _ (b.text_is ∙ regroup (codes "file ") h.digits (codes " ") h.path (codes "\n") h.rest)

pub no_header_blank : (text after : List ℕ) → text ≡ codes "file " ++ after → AllByRecursion (λ b. b ≢ 32) after → (h : Header) → StartsWithHeader text h → ⊥
no_header_blank text after e all h b =
    at_split (λ x. x ≢ 32) h.digits 32 (h.path ++ 10 ∷ h.rest) (subst (AllByRecursion (λ x. x ≢ 32)) (after_word text h b after e) all) refl

pub no_header_length : (text after digits more : List ℕ) → text ≡ codes "file " ++ after → after ≡ digits ++ 32 ∷ more
    → AllByRecursion (λ b. b ≢ 32) digits → (IsLength digits → ⊥) → (h : Header) → StartsWithHeader text h → ⊥
no_header_length text after digits more e f d n h b =
    n (subst IsLength (sym (after_length text after digits more h b e f d).0) b.length_is)

pub no_header_line : (text after digits more : List ℕ) → text ≡ codes "file " ++ after → after ≡ digits ++ 32 ∷ more
    → AllByRecursion (λ b. b ≢ 32) digits → AllByRecursion (λ b. b ≢ 10) more → (h : Header) → StartsWithHeader text h → ⊥
no_header_line text after digits more e f d all h b =
    at_split (λ x. x ≢ 10) h.path 10 h.rest (subst (AllByRecursion (λ x. x ≢ 10)) (after_length text after digits more h b e f d).1 all) refl

-- a text begins with at most one header
pub one_header : (text : List ℕ) (h k : Header) → StartsWithHeader text h → StartsWithHeader text k → (h.digits ≡ k.digits) × (h.path ≡ k.path) × (h.rest ≡ k.rest)
one_header text h k b d =
    let after = h.digits ++ 32 ∷ (h.path ++ 10 ∷ h.rest) in
    let e : text ≡ codes "file " ++ after = b.text_is ∙ regroup (codes "file ") h.digits (codes " ") h.path (codes "\n") h.rest in
    let first = after_length text after h.digits (h.path ++ 10 ∷ h.rest) k d e refl (no_blank h.digits b.length_is.digits) in
    let second = split_one_way 10 h.path h.rest k.path k.rest b.one_line d.one_line first.1 in
    (first.0, second.0, second.1)
