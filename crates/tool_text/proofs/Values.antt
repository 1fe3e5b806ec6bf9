-- The texts of registers, values and exit codes are read as the grammar says.
use Rattle.std.proofs.Common.{◌≡◌, ◌≢◌, ℕ, ◌+◌, ◌<◌, true, false, Bool, not, ◌||◌, ◌==◌, cond, List, [], ◌∷◌, ◌++◌, length, Option, Some, None, inl, inr, refl, ap, sym, ◌∙◌, subst, arith, append_assoc}
use Rattle.std.specs.Bool.{nat_lt, nat_le}
use Rattle.std.specs.List.{list_all}
use Rattle.std.specs.Option.{option_map}
use Rattle.std.specs.Str.Parse.{digits_value}
use Rattle.std.proofs.lemmas.Bool.{and_from, and_parts, cases_Bool, false≢true}
use Rattle.std.proofs.lemmas.Bool.Decides.{Decides-eqb, Decides-ltb, nat_tests}
use Rattle.std.proofs.lemmas.Option.{same_Some}
use Rattle.bx_tree.proofs.Lists.{all_true, true_all}
use Rattle.bx_tree.proofs.Options.{if_some}
use Rattle.tool_text.specs.declared.limits.TheConstants.{REGISTERS, MAX_EXIT}
use Rattle.tool_text.specs.declared.tool.Operand.{Operand}
use Rattle.tool_text.specs.declared.tool.Operand.TheVariants.{Register, Constant}
use Rattle.tool_text.specs.Grammar.{IsCode, IsDigits, IsNumber, IsRegister, IsValue, SpellsByte, SpellsBytes, is_digit}
use Rattle.tool_text.specs.Reading.{after_bytes, code_of, escape_of, is_digits, is_number, numbered, operand_of, register_of, string_rest, value_below, with_byte}
use Rattle.tool_text.proofs.Strings.{one_escape, one_plain}

-- ## Options

pub map_some : {X Y : Type 0} (f : X → Y) (o : Option X) (y : Y) → option_map f o ≡ Some y → (x : X) × (o ≡ Some x) × (f x ≡ y)
map_some f None y e = cc
map_some f (Some x) y e = (x, refl, same_Some (f x) y e)

pub equal_numbers : (x y : ℕ) → (x == y) ≡ true → x ≡ y
equal_numbers x y e = (Decides-eqb x y).0 e

pub other_numbers : (x y : ℕ) → (x == y) ≡ false → x ≢ y
other_numbers x y e = λ same. false≢true (sym e ∙ (Decides-eqb x y).1 same)

-- ## Digits

pub digits_sound : (text : List ℕ) → is_digits text ≡ true → IsDigits text
digits_sound [] e = cc
digits_sound (b ∷ bs) e =
    record { some = λ (none : b ∷ bs ≡ []). cc; digits = all_true is_digit (b ∷ bs) (and_parts (nat_lt 0 (length (b ∷ bs))) (list_all is_digit (b ∷ bs)) e).1 }

pub digits_complete : (text : List ℕ) → IsDigits text → is_digits text ≡ true
digits_complete [] d = absurd (d.some refl)
digits_complete (b ∷ bs) d =
    and_from (nat_lt 0 (length (b ∷ bs))) (list_all is_digit (b ∷ bs)) ((Decides-ltb 0 (length (b ∷ bs))).1 (omega arith)) (true_all is_digit (b ∷ bs) d.digits)

zero_alone : (b : ℕ) (bs : List ℕ) → (nat_le (length (b ∷ bs)) 1 || not (b == 48)) ≡ true → b ≡ 48 → bs ≡ []
zero_alone b [] e is = refl
zero_alone b (c ∷ cs) e is = absurd (grind (arith, nat_tests))

alone_or_other : (b : ℕ) (bs : List ℕ) → (b ≡ 48 → bs ≡ []) → (nat_le (length (b ∷ bs)) 1 || not (b == 48)) ≡ true
alone_or_other b [] h = refl
alone_or_other b (c ∷ cs) h = elim (cases_Bool (b == 48)) [
  | inl e ↦ let none : c ∷ cs ≡ [] = h (equal_numbers b 48 e) in cc
  | inr n ↦ ap (λ t. nat_le (length (b ∷ c ∷ cs)) 1 || not t) n ∙ or_true (nat_le (length (b ∷ c ∷ cs)) 1)
]
  where
    or_true : (t : Bool) → (t || true) ≡ true
    or_true true = refl
    or_true false = refl

pub number_sound : (text : List ℕ) → is_number text ≡ true → IsNumber text
number_sound [] e = cc
number_sound (b ∷ bs) e =
    let parts = and_parts (is_digits (b ∷ bs)) (nat_le (length (b ∷ bs)) 1 || not (b == 48)) e in
    record {
      digits = digits_sound (b ∷ bs) parts.0;
      no_zero = λ more is.
          let head : b ≡ 48 = heads b bs more is in
          let tail : bs ≡ more = tails b bs more is in
          sym tail ∙ zero_alone b bs parts.1 head;
    }
  where
    heads : (b : ℕ) (bs more : List ℕ) → b ∷ bs ≡ 48 ∷ more → b ≡ 48
    heads b bs more e = cc

    tails : (b : ℕ) (bs more : List ℕ) → b ∷ bs ≡ 48 ∷ more → bs ≡ more
    tails b bs more e = cc

pub number_complete : (text : List ℕ) → IsNumber text → is_number text ≡ true
number_complete [] n = absurd (n.digits.some refl)
number_complete (b ∷ bs) n =
    and_from (is_digits (b ∷ bs)) (nat_le (length (b ∷ bs)) 1 || not (b == 48)) (digits_complete (b ∷ bs) n.digits)
    (alone_or_other b bs (λ is. n.no_zero bs (ap (λ x. x ∷ bs) is)))

below_sound : (limit : ℕ) (digits : List ℕ) (r : ℕ) → value_below limit digits ≡ Some r → (digits_value 10 digits ≡ r) × (r < limit)
below_sound limit digits r e =
    let parts = if_some (nat_lt (digits_value 10 digits) limit) (Some (digits_value 10 digits)) r e in
    let same : digits_value 10 digits ≡ r = same_Some (digits_value 10 digits) r parts.1 in
    let small : digits_value 10 digits < limit = (Decides-ltb (digits_value 10 digits) limit).0 parts.0 in
    (same, subst (λ n. n < limit) same small)

below_complete : (limit : ℕ) (digits : List ℕ) (r : ℕ) → digits_value 10 digits ≡ r → r < limit → value_below limit digits ≡ Some r
below_complete limit digits r is small =
    ap (λ t. cond t (Some (digits_value 10 digits)) None) ((Decides-ltb (digits_value 10 digits) limit).1 (subst (λ n. n < limit) (sym is) small)) ∙ ap Some is

pub numbered_sound : (digits : List ℕ) (r : ℕ) → numbered digits ≡ Some r → IsRegister (114 ∷ digits) r
numbered_sound digits r e =
    let parts = if_some (is_number digits) (value_below REGISTERS digits) r e in
    let value = below_sound REGISTERS digits r parts.1 in
    (digits, refl, number_sound digits parts.0, value.0, value.1)

pub numbered_complete : (digits : List ℕ) (r : ℕ) → IsNumber digits → digits_value 10 digits ≡ r → r < REGISTERS → numbered digits ≡ Some r
numbered_complete digits r number is small =
    ap (λ t. cond t (value_below REGISTERS digits) None) (number_complete digits number) ∙ below_complete REGISTERS digits r is small

pub register_sound : (text : List ℕ) (r : ℕ) → register_of text ≡ Some r → IsRegister text r
register_sound [] r e = cc
register_sound (b ∷ bs) r e =
    let parts = if_some (b == 114) (numbered bs) r e in
    subst (λ c. IsRegister (c ∷ bs) r) (sym (equal_numbers b 114 parts.0)) (numbered_sound bs r parts.1)

pub register_complete : (text : List ℕ) (r : ℕ) → IsRegister text r → register_of text ≡ Some r
register_complete text r h = ap register_of h.1 ∙ numbered_complete h.0 r h.2 h.3 h.4

pub code_sound : (text : List ℕ) (code : ℕ) → code_of text ≡ Some code → IsCode text code
code_sound text code e =
    let parts = if_some (is_digits text) (value_below (MAX_EXIT + 1) text) code e in
    let value = below_sound (MAX_EXIT + 1) text code parts.1 in
    record { digits = digits_sound text parts.0; value = value.0; most = omega arith }

pub code_complete : (text : List ℕ) (code : ℕ) → IsCode text code → code_of text ≡ Some code
code_complete text code h =
    ap (λ t. cond t (value_below (MAX_EXIT + 1) text) None) (digits_complete text h.digits) ∙ below_complete (MAX_EXIT + 1) text code h.value (omega arith)

-- ## Strings

-- the text spells the bytes, and ends with a `"`
abbrev pub Ends : List ℕ → List ℕ → Type 0
Ends text bytes = (inside : List ℕ) × (text ≡ inside ++ 34 ∷ []) × SpellsBytes inside bytes

escape_sound : (c b : ℕ) → escape_of c ≡ Some b → SpellsByte (92 ∷ c ∷ []) b
escape_sound c b e = by_code (c == 110) (c == 116) (c == 34) (c == 92) refl refl refl refl e
  where
    by_code : (n t q s : Bool) → (c == 110) ≡ n → (c == 116) ≡ t → (c == 34) ≡ q → (c == 92) ≡ s
        → cond n (Some 10) (cond t (Some 9) (cond (q || s) (Some c) None)) ≡ Some b → SpellsByte (92 ∷ c ∷ []) b
    by_code true t q s is-n is-t is-q is-s e = inr (inl (ap (λ x. 92 ∷ x ∷ []) (equal_numbers c 110 is-n), cc))
    by_code false true q s is-n is-t is-q is-s e = inr (inr (inl (ap (λ x. 92 ∷ x ∷ []) (equal_numbers c 116 is-t), cc)))
    by_code false false true s is-n is-t is-q is-s e =
        let same : c ≡ 34 = equal_numbers c 34 is-q in inr (inr (inr (inl (ap (λ x. 92 ∷ x ∷ []) same, cc))))
    by_code false false false true is-n is-t is-q is-s e =
        let same : c ≡ 92 = equal_numbers c 92 is-s in inr (inr (inr (inr (ap (λ x. 92 ∷ x ∷ []) same, cc))))
    by_code false false false false is-n is-t is-q is-s e = cc

with_sound : (o : Option ℕ) (rest : Option (List ℕ)) (bytes : List ℕ) → with_byte o rest ≡ Some bytes
    → (b : ℕ) × (bs : List ℕ) × (o ≡ Some b) × (rest ≡ Some bs) × (b ∷ bs ≡ bytes)
with_sound None rest bytes e = cc
with_sound (Some b) None bytes e = cc
with_sound (Some b) (Some bs) bytes e = (b, bs, refl, refl, cc)

one_more : (first text bytes bs : List ℕ) (b : ℕ) → b ∷ bs ≡ bytes → SpellsByte first b → Ends text bs → Ends (first ++ text) bytes
one_more first text bytes bs b is spells rest =
    (first ++ rest.0, ap (λ t. first ++ t) rest.1 ∙ sym (append_assoc first rest.0 (34 ∷ [])), subst (λ ys. SpellsBytes (first ++ rest.0) ys) is (first, rest.0, spells, refl, rest.2))

pub string_sound : (text bytes : List ℕ) → string_rest text ≡ Some bytes → Ends text bytes
string_sound [] bytes e = cc
string_sound (b ∷ []) bytes e =
    let parts = if_some (b == 34) (Some []) bytes e in
    ([], ap (λ x. x ∷ []) (equal_numbers b 34 parts.0), no_bytes bytes parts.1)
  where
    no_bytes : (bytes : List ℕ) → Some [] ≡ Some bytes → SpellsBytes [] bytes
    no_bytes [] e = refl
    no_bytes (x ∷ xs) e = cc
string_sound (b ∷ c ∷ bs) bytes e =
    by_byte (b == 34) (b == 92) (b == 10) refl refl refl (λ more is. string_sound bs more is) (λ more is. string_sound (c ∷ bs) more is) e
  where
    by_byte : (q s n : Bool) → (b == 34) ≡ q → (b == 92) ≡ s → (b == 10) ≡ n
        → ((more : List ℕ) → string_rest bs ≡ Some more → Ends bs more) → ((more : List ℕ) → string_rest (c ∷ bs) ≡ Some more → Ends (c ∷ bs) more)
        → cond q None (cond s (with_byte (escape_of c) (string_rest bs)) (cond n None (with_byte (Some b) (string_rest (c ∷ bs))))) ≡ Some bytes
        → Ends (b ∷ c ∷ bs) bytes
    by_byte true s n is-q is-s is-n later next e = cc
    by_byte false true n is-q is-s is-n later next e =
        let parts = with_sound (escape_of c) (string_rest bs) bytes e in
        subst (λ x. Ends (x ∷ c ∷ bs) bytes) (sym (equal_numbers b 92 is-s))
        (one_more (92 ∷ c ∷ []) bs bytes parts.1 parts.0 parts.4 (escape_sound c parts.0 parts.2) (later parts.1 parts.3))
    by_byte false false true is-q is-s is-n later next e = cc
    by_byte false false false is-q is-s is-n later next e =
        let parts = with_sound (Some b) (string_rest (c ∷ bs)) bytes e in
        let same : b ≡ parts.0 = same_Some b parts.0 parts.2 in
        one_more (b ∷ []) (c ∷ bs) bytes parts.1 b (ap (λ x. x ∷ parts.1) same ∙ parts.4)
        (inl (refl, other_numbers b 10 is-n, other_numbers b 34 is-q, other_numbers b 92 is-s)) (next parts.1 parts.3)

no_prefix : (o : Option (List ℕ)) → after_bytes [] o ≡ o
no_prefix None = refl
no_prefix (Some bytes) = refl

escaped : (first rest bs : List ℕ) (b c : ℕ) → first ≡ 92 ∷ c ∷ [] → Some b ≡ escape_of c → string_rest rest ≡ Some bs → string_rest (first ++ rest) ≡ Some (b ∷ bs)
escaped first rest bs b c is is_byte read =
    ap (λ t. string_rest (t ++ rest)) is ∙ sym (no_prefix (string_rest (92 ∷ c ∷ rest)))
    ∙ sym (one_escape [] (92 ∷ c ∷ rest) (c ∷ rest) rest 92 c b refl refl (λ (e : 92 ≡ 34). omega arith) refl is_byte) ∙ ap (after_bytes (b ∷ [])) read

read_more : (first rest bs : List ℕ) (b : ℕ) → SpellsByte first b → string_rest rest ≡ Some bs → string_rest (first ++ rest) ≡ Some (b ∷ bs)
read_more first rest bs b (inl h) read =
    ap (λ t. string_rest (t ++ rest)) h.0 ∙ sym (no_prefix (string_rest (b ∷ rest))) ∙ sym (one_plain [] (b ∷ rest) rest b refl h.2 h.3 h.1) ∙ ap (after_bytes (b ∷ [])) read
read_more first rest bs b (inr (inl h)) read = escaped first rest bs b 110 h.0 (ap Some h.1) read
read_more first rest bs b (inr (inr (inl h))) read = escaped first rest bs b 116 h.0 (ap Some h.1) read
read_more first rest bs b (inr (inr (inr (inl h)))) read = escaped first rest bs b 34 h.0 (ap Some h.1) read
read_more first rest bs b (inr (inr (inr (inr h)))) read = escaped first rest bs b 92 h.0 (ap Some h.1) read

pub string_complete : (bytes inside : List ℕ) → SpellsBytes inside bytes → string_rest (inside ++ 34 ∷ []) ≡ Some bytes
string_complete [] inside h = ap (λ t. string_rest (t ++ 34 ∷ [])) h
string_complete (b ∷ bs) inside h =
    ap (λ t. string_rest (t ++ 34 ∷ [])) h.3 ∙ ap string_rest (append_assoc h.0 h.1 (34 ∷ []))
    ∙ read_more h.0 (h.1 ++ 34 ∷ []) bs b h.2 (string_complete bs h.1 h.4)

-- ## Values

pub value_sound : (text : List ℕ) (x : Operand) → operand_of text ≡ Some x → IsValue text x
value_sound [] x e = cc
value_sound (b ∷ bs) x e = by_byte (b == 114) (b == 34) refl refl e
  where
    made : {X : Type 0} (f : X → Operand) (o : Option X) → option_map f o ≡ Some x → ((v : X) → o ≡ Some v → IsValue (b ∷ bs) (f v)) → IsValue (b ∷ bs) x
    made f o e is = let parts = map_some f o x e in subst (λ y. IsValue (b ∷ bs) y) parts.2 (is parts.0 parts.1)

    by_byte : (r q : Bool) → (b == 114) ≡ r → (b == 34) ≡ q
        → cond r (option_map Register (numbered bs)) (cond q (option_map Constant (string_rest bs)) (cond (is_digits (b ∷ bs)) (Some (Constant (b ∷ bs))) None)) ≡ Some x
        → IsValue (b ∷ bs) x
    by_byte true q is-r is-q e =
        made Register (numbered bs) e (λ v is. subst (λ c. IsRegister (c ∷ bs) v) (sym (equal_numbers b 114 is-r)) (numbered_sound bs v is))
    by_byte false true is-r is-q e =
        made Constant (string_rest bs) e (λ v is.
        let inside = string_sound bs v is in
        inl (inside.0, ap (λ t. b ∷ t) inside.1 ∙ ap (λ c. c ∷ inside.0 ++ 34 ∷ []) (equal_numbers b 34 is-q), inside.2))
    by_byte false false is-r is-q e =
        let parts = if_some (is_digits (b ∷ bs)) (Some (Constant (b ∷ bs))) x e in
        subst (λ y. IsValue (b ∷ bs) y) (same_Some (Constant (b ∷ bs)) x parts.1) (inr (digits_sound (b ∷ bs) parts.0, refl))

-- a digit is no `r` and no `"`
digit_only : (b : ℕ) → is_digit b ≡ true → ((b == 114) ≡ false) × ((b == 34) ≡ false)
digit_only b e = (grind (arith, nat_tests), grind (arith, nat_tests))

digits_read : (text : List ℕ) → IsDigits text → operand_of text ≡ Some (Constant text)
digits_read [] d = absurd (d.some refl)
digits_read (b ∷ bs) d =
    let only = digit_only b d.digits.0 in
    ap (λ t. cond t (option_map Register (numbered bs)) (cond (b == 34) (option_map Constant (string_rest bs)) (cond (is_digits (b ∷ bs)) (Some (Constant (b ∷ bs))) None))) only.0
    ∙ ap (λ t. cond t (option_map Constant (string_rest bs)) (cond (is_digits (b ∷ bs)) (Some (Constant (b ∷ bs))) None)) only.1
    ∙ ap (λ t. cond t (Some (Constant (b ∷ bs))) None) (digits_complete (b ∷ bs) d)

pub value_complete : (text : List ℕ) (x : Operand) → IsValue text x → operand_of text ≡ Some x
value_complete text (Register r) h = ap operand_of h.1 ∙ ap (option_map Register) (numbered_complete h.0 r h.2 h.3 h.4)
value_complete text (Constant bytes) (inl h) = ap operand_of h.1 ∙ ap (option_map Constant) (string_complete bytes h.0 h.2)
value_complete text (Constant bytes) (inr h) = digits_read text h.0 ∙ ap (λ t. Some (Constant t)) (sym h.1)
