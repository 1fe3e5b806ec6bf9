-- The bytes between delimiters have the value that was written.
use Rattle.std.proofs.Common.{◌≡◌, ℕ, Bool, true, false, cond, not, ◌&&◌, ◌||◌, eqb, List, [], ◌∷◌, ◌++◌, Option, Some, None, refl, sym, ap, ◌∙◌, ⊎_elim}
use Rattle.std.proofs.lemmas.Bool.{cond-false, or_cases, or_parts, and_parts, eqb-true}
use Rattle.std.proofs.lemmas.List.{append_assoc}
use Rattle.dscript_lex.specs.Bytes.{begins_with, escape_of}
use Rattle.dscript_lex.specs.Lexemes.{Enclosed, enclosed, with_byte}
use Rattle.dscript_print_tokens.specs.Spellings.{escaped, string_byte, in_string, ends_a_part, part_byte, in_part}

abbrev pub read_as : List ℕ → Bool → Option Enclosed
read_as value hole = Some (record { value = value; hole = hole })

abbrev is_brace : ℕ → Bool
is_brace c = eqb c 0x7b

plain_byte : (d b : ℕ) (s v : List ℕ) (h : Bool) → eqb b d ≡ false → eqb b 0x5c ≡ false → (eqb d 0x60 && eqb b 0x24 && begins_with is_brace s) ≡ false → (not (eqb d 0x60) && eqb b 0x0a) ≡ false → enclosed d s ≡ read_as v h → enclosed d (b ∷ s) ≡ read_as (b ∷ v) h
unfolding enclosed
plain_byte d b [] v h not_end not_escape not_hole not_newline is = cc
plain_byte d b (c ∷ s) v h not_end not_escape not_hole not_newline is =
    cond-false (eqb b d) None _ not_end
    ∙ cond-false (eqb b 0x5c) _ _ not_escape
    ∙ cond-false (eqb d 0x60 && eqb b 0x24 && eqb c 0x7b) _ _ not_hole
    ∙ cond-false (not (eqb d 0x60) && eqb b 0x0a) None _ not_newline
    ∙ ap (with_byte (Some b)) is

escaped_byte : (d c x : ℕ) (s v : List ℕ) (h : Bool) → eqb 0x5c d ≡ false → escape_of c s ≡ Some x → enclosed d s ≡ read_as v h → enclosed d (escaped c ++ s) ≡ read_as (x ∷ v) h
unfolding enclosed
escaped_byte d c x s v h not_end escapes is = cond-false (eqb 0x5c d) None _ not_end ∙ (λ i. with_byte (escapes i) (is i))

-- an escaped byte that spells itself
itself : (b c : ℕ) (s : List ℕ) → eqb b c ≡ true → escape_of c s ≡ Some c → escape_of b s ≡ Some b
itself b c s same is = let e : b ≡ c = eqb-true b c same in ap (λ x. escape_of x s) e ∙ is ∙ ap Some (sym e)

string_step : (b : ℕ) (s v : List ℕ) → enclosed 0x22 s ≡ read_as v false → (t : Bool) → eqb b 0x0a ≡ t → (u : Bool) → (eqb b 0x22 || eqb b 0x5c) ≡ u → enclosed 0x22 (cond t (escaped 0x6e) (cond u (escaped b) (b ∷ [])) ++ s) ≡ read_as (b ∷ v) false
string_step b s v is true newline u quote = escaped_byte 0x22 0x6e 0x0a s v false refl refl is ∙ ap (λ x. read_as (x ∷ v) false) (sym (eqb-true b 0x0a newline))
string_step b s v is false newline true quote = ⊎_elim
    (λ e. escaped_byte 0x22 b b s v false refl (itself b 0x22 s e refl) is)
    (λ e. escaped_byte 0x22 b b s v false refl (itself b 0x5c s e refl) is)
    (or_cases (eqb b 0x22) (eqb b 0x5c) quote)
string_step b s v is false newline false quote =
    let parts = or_parts (eqb b 0x22) (eqb b 0x5c) quote in
    plain_byte 0x22 b s v false parts.0 parts.1 refl newline is

pub string_enclosed : (v : List ℕ) → enclosed 0x22 (in_string v ++ 0x22 ∷ []) ≡ read_as v false
unfolding enclosed
string_enclosed [] = refl
string_enclosed (b ∷ bs) =
    ap (enclosed 0x22) (append_assoc (string_byte b) (in_string bs) (0x22 ∷ []))
    ∙ string_step b (in_string bs ++ 0x22 ∷ []) bs (string_enclosed bs) (eqb b 0x0a) refl (eqb b 0x22 || eqb b 0x5c) refl

-- what is written of a part begins with a brace only where the part does
begins_step : (b : ℕ) (s : List ℕ) (t : Bool) → is_brace b ≡ false → begins_with is_brace (cond t (escaped b) (b ∷ []) ++ s) ≡ false
begins_step b s true plain = refl
begins_step b s false plain = plain

part_begins : (v end : List ℕ) → begins_with is_brace end ≡ false → begins_with is_brace v ≡ false → begins_with is_brace (in_part v ++ end) ≡ false
part_begins [] end plain none = plain
part_begins (b ∷ bs) end plain none =
    ap (begins_with is_brace) (append_assoc (part_byte b bs) (in_part bs) end) ∙ begins_step b (in_part bs ++ end) (ends_a_part b bs) none

no_hole : (x y z : Bool) → (x && y) ≡ false → (y ≡ false → z ≡ false) → (x && z) ≡ false
no_hole true y z not_both implies = implies not_both
no_hole false y z not_both implies = refl

part_step : (b : ℕ) (bs s v : List ℕ) (h : Bool) → (begins_with is_brace bs ≡ false → begins_with is_brace s ≡ false) → enclosed 0x60 s ≡ read_as v h → (t : Bool) → ends_a_part b bs ≡ t → enclosed 0x60 (cond t (escaped b) (b ∷ []) ++ s) ≡ read_as (b ∷ v) h
part_step b bs s v h begins is true ends = ⊎_elim
    (λ one. ⊎_elim
    (λ e. escaped_byte 0x60 b b s v h refl (itself b 0x5c s e refl) is)
    (λ e. escaped_byte 0x60 b b s v h refl (itself b 0x60 s e refl) is)
    (or_cases (eqb b 0x5c) (eqb b 0x60) one))
    (λ dollar. escaped_byte 0x60 b b s v h refl (itself b 0x24 s (and_parts (eqb b 0x24) (begins_with is_brace bs) dollar).0 refl) is)
    (or_cases (eqb b 0x5c || eqb b 0x60) (eqb b 0x24 && begins_with is_brace bs) ends)
part_step b bs s v h begins is false ends =
    let parts = or_parts (eqb b 0x5c || eqb b 0x60) (eqb b 0x24 && begins_with is_brace bs) ends in
    let neither = or_parts (eqb b 0x5c) (eqb b 0x60) parts.0 in
    plain_byte 0x60 b s v h neither.1 neither.0 (no_hole (eqb b 0x24) (begins_with is_brace bs) (begins_with is_brace s) parts.1 begins) refl is

pub part_enclosed : (v end : List ℕ) (h : Bool) → begins_with is_brace end ≡ false → enclosed 0x60 end ≡ read_as [] h → enclosed 0x60 (in_part v ++ end) ≡ read_as v h
part_enclosed [] end h plain is = is
part_enclosed (b ∷ bs) end h plain is =
    ap (enclosed 0x60) (append_assoc (part_byte b bs) (in_part bs) end)
    ∙ part_step b bs (in_part bs ++ end) bs h (part_begins bs end plain) (part_enclosed bs end h plain is) (ends_a_part b bs) refl
