-- Which byte after a punctuator leaves it the longest at its place.
use Rattle.std.proofs.Common.{◌≡◌, ℕ, suc, Bool, true, false, not, ◌&&◌, ◌||◌, eqb, List, [], ◌∷◌, ◌++◌, length, Option, Some, None, refl, sym, ap, ◌∙◌, ⊎_elim}
use Rattle.std.specs.List.{list_any, list_all}
use Rattle.std.proofs.lemmas.Bool.{cond-true, cond-false, and_parts, and_from, and_right, or_cases, or_parts, or_left, or_right, eqb-true, both_ways, false_from_ne_true, not-true}
use Rattle.dscript_lex.specs.Bytes.{is_blank, is_word_byte, begins_with}
use Rattle.dscript_lex.specs.Punctuators.{spells, punctuators_of_one, punctuators_of_two, punctuators_of_three, is_punctuator}
use Rattle.dscript_lex.specs.Scanning.{comment_len, punctuator_len}
use Rattle.dscript_lex.proofs.PunctuatorExact.{comment_sound, one_slash, long_is_no_punctuator}
use Rattle.dscript_print_tokens.specs.Sides.{goes_on}

-- a test of two bytes that each spelling of two passes
abbrev of_two : (ℕ → ℕ → Bool) → List ℕ → Bool
of_two p (x ∷ y ∷ []) = p x y
of_two p _ = false

abbrev of_three : (ℕ → ℕ → ℕ → Bool) → List ℕ → Bool
of_three p (x ∷ y ∷ z ∷ []) = p x y z
of_three p _ = false

spells_two : (p : ℕ → ℕ → Bool) (a b : ℕ) (xs : List ℕ) → of_two p xs ≡ true → spells (a ∷ b ∷ []) xs ≡ true → p a b ≡ true
spells_two p a b [] passes is = cc
spells_two p a b (x ∷ []) passes is = absurd (both_ways _ (and_right (eqb a x) false refl) is)
spells_two p a b (x ∷ y ∷ []) passes is =
    let parts = and_parts (eqb a x) (eqb b y && true) is in
    let second = and_parts (eqb b y) true parts.1 in
    (λ i. p (eqb-true a x parts.0 i) (eqb-true b y second.0 i)) ∙ passes
spells_two p a b (x ∷ y ∷ z ∷ zs) passes is = cc

spells_three : (p : ℕ → ℕ → ℕ → Bool) (a b c : ℕ) (xs : List ℕ) → of_three p xs ≡ true → spells (a ∷ b ∷ c ∷ []) xs ≡ true → p a b c ≡ true
spells_three p a b c [] passes is = cc
spells_three p a b c (x ∷ []) passes is = cc
spells_three p a b c (x ∷ y ∷ []) passes is = cc
spells_three p a b c (x ∷ y ∷ z ∷ []) passes is =
    let parts = and_parts (eqb a x) (eqb b y && (eqb c z && true)) is in
    let second = and_parts (eqb b y) (eqb c z && true) parts.1 in
    let third = and_parts (eqb c z) true second.1 in
    (λ i. p (eqb-true a x parts.0 i) (eqb-true b y second.0 i) (eqb-true c z third.0 i)) ∙ passes
spells_three p a b c (x ∷ y ∷ z ∷ w ∷ ws) passes is = cc

any_of_two : (p : ℕ → ℕ → Bool) (a b : ℕ) (all : List (List ℕ)) → list_all (of_two p) all ≡ true → list_any (spells (a ∷ b ∷ [])) all ≡ true → p a b ≡ true
any_of_two p a b [] passes is = cc
any_of_two p a b (xs ∷ all) passes is =
    let parts = and_parts (of_two p xs) (list_all (of_two p) all) passes in
    ⊎_elim (λ here. spells_two p a b xs parts.0 here) (λ later. any_of_two p a b all parts.1 later) (or_cases (spells (a ∷ b ∷ []) xs) (list_any (spells (a ∷ b ∷ [])) all) is)

any_of_three : (p : ℕ → ℕ → ℕ → Bool) (a b c : ℕ) (all : List (List ℕ)) → list_all (of_three p) all ≡ true → list_any (spells (a ∷ b ∷ c ∷ [])) all ≡ true → p a b c ≡ true
any_of_three p a b c [] passes is = cc
any_of_three p a b c (xs ∷ all) passes is =
    let parts = and_parts (of_three p xs) (list_all (of_three p) all) passes in
    ⊎_elim (λ here. spells_three p a b c xs parts.0 here) (λ later. any_of_three p a b c all parts.1 later) (or_cases (spells (a ∷ b ∷ c ∷ []) xs) (list_any (spells (a ∷ b ∷ c ∷ [])) all) is)

any_of_one : (p : ℕ → Bool) (a : ℕ) (all : List ℕ) → list_all p all ≡ true → list_any (λ x. eqb x a) all ≡ true → p a ≡ true
any_of_one p a [] passes is = cc
any_of_one p a (x ∷ all) passes is =
    let parts = and_parts (p x) (list_all p all) passes in
    ⊎_elim (λ here. ap p (sym (eqb-true x a here)) ∙ parts.0) (λ later. any_of_one p a all parts.1 later) (or_cases (eqb x a) (list_any (λ y. eqb y a) all) is)

first_of_more : (p : ℕ → Bool) → list_all (of_two (λ a _. p a)) punctuators_of_two ≡ true → list_all (of_three (λ a _ _. p a)) punctuators_of_three ≡ true → (a b : ℕ) (t : List ℕ) → is_punctuator (a ∷ b ∷ t) ≡ true → p a ≡ true
unfolding is_punctuator
first_of_more p two three a b [] punctuator = any_of_two (λ x _. p x) a b punctuators_of_two two punctuator
first_of_more p two three a b (c ∷ []) punctuator = any_of_three (λ x _ _. p x) a b c punctuators_of_three three punctuator
first_of_more p two three a b (c ∷ d ∷ t) punctuator = absurd (both_ways _ (long_is_no_punctuator a b c d t) punctuator)

first_of_punctuator : (p : ℕ → Bool) → list_all p punctuators_of_one ≡ true → list_all (of_two (λ a _. p a)) punctuators_of_two ≡ true → list_all (of_three (λ a _ _. p a)) punctuators_of_three ≡ true → (a : ℕ) (t : List ℕ) → is_punctuator (a ∷ t) ≡ true → p a ≡ true
unfolding is_punctuator
first_of_punctuator p one two three a [] punctuator = any_of_one p a punctuators_of_one one punctuator
first_of_punctuator p one two three a (b ∷ t) punctuator = first_of_more p two three a b t punctuator

-- a byte that begins no blank, word, number, string or template
abbrev pub begins_a_punctuator : ℕ → Bool
begins_a_punctuator b = not (is_blank b || is_word_byte b || (eqb b 0x22 || eqb b 0x27) || eqb b 0x60)

pub punctuator_begins : (a : ℕ) (t : List ℕ) → is_punctuator (a ∷ t) ≡ true → begins_a_punctuator a ≡ true
punctuator_begins a t punctuator = first_of_punctuator begins_a_punctuator refl refl refl a t punctuator

-- no punctuator goes on after a `}`
pub brace_alone : (a b : ℕ) (t : List ℕ) → is_punctuator (a ∷ b ∷ t) ≡ true → eqb a 0x7d ≡ false
brace_alone a b t punctuator = not-true (eqb a 0x7d) (first_of_more (λ x. not (eqb x 0x7d)) refl refl a b t punctuator)

-- bytes that go on with no punctuator and no comment
abbrev pub keeps_apart : ℕ → Bool
keeps_apart c = is_word_byte c || is_blank c || eqb c 0x22 || eqb c 0x60 || eqb c 0x7d

abbrev may_join : ℕ → Bool
may_join c = not (keeps_apart c)

two_join : (a b : ℕ) → is_punctuator (a ∷ b ∷ []) ≡ true → may_join b ≡ true
unfolding is_punctuator
two_join a b is = any_of_two (λ _ c. may_join c) a b punctuators_of_two refl is

goes_on_joins : (a c : ℕ) → goes_on a c ≡ true → may_join c ≡ true
unfolding goes_on
goes_on_joins a c on = ⊎_elim
    (λ first. ⊎_elim (λ punctuator. two_join a c punctuator) (λ dots. ap may_join (eqb-true c 0x2e (and_parts (eqb a 0x2e) (eqb c 0x2e) dots).1)) (or_cases (is_punctuator (a ∷ c ∷ [])) (eqb a 0x2e && eqb c 0x2e) first))
    (λ comment. ⊎_elim (λ e. ap may_join (eqb-true c 0x2f e)) (λ e. ap may_join (eqb-true c 0x2a e)) (or_cases (eqb c 0x2f) (eqb c 0x2a) (and_parts (eqb a 0x2f) (eqb c 0x2f || eqb c 0x2a) comment).1))
    (or_cases (is_punctuator (a ∷ c ∷ []) || (eqb a 0x2e && eqb c 0x2e)) (eqb a 0x2f && (eqb c 0x2f || eqb c 0x2a)) on)

pub apart_is_no_more : (a c : ℕ) → keeps_apart c ≡ true → goes_on a c ≡ false
apart_is_no_more a c apart = false_from_ne_true (goes_on a c) (λ on. both_ways (keeps_apart c) (not-true _ (goes_on_joins a c on)) apart)

-- what a longer punctuator or a comment would need
three_on : (a b c : ℕ) → is_punctuator (a ∷ b ∷ c ∷ []) ≡ true → (goes_on a b && goes_on a c) ≡ true
unfolding is_punctuator goes_on
three_on a b c is = any_of_three (λ x y z. goes_on x y && goes_on x z) a b c punctuators_of_three refl is

no_two : (a c : ℕ) → goes_on a c ≡ false → is_punctuator (a ∷ c ∷ []) ≡ false
unfolding goes_on
no_two a c none = (or_parts _ _ (or_parts _ _ none).0).0

no_three_second : (a b c : ℕ) → goes_on a b ≡ false → is_punctuator (a ∷ b ∷ c ∷ []) ≡ false
no_three_second a b c none = false_from_ne_true _ (λ is. both_ways (goes_on a b) none (and_parts (goes_on a b) (goes_on a c) (three_on a b c is)).0)

no_three_third : (a b c : ℕ) → goes_on a c ≡ false → is_punctuator (a ∷ b ∷ c ∷ []) ≡ false
no_three_third a b c none = false_from_ne_true _ (λ is. both_ways (goes_on a c) none (and_parts (goes_on a b) (goes_on a c) (three_on a b c is)).1)

no_line : (a c : ℕ) → goes_on a c ≡ false → (eqb a 0x2f && eqb c 0x2f) ≡ false
unfolding goes_on
no_line a c none = false_from_ne_true _ (λ is. let parts = and_parts (eqb a 0x2f) (eqb c 0x2f) is in both_ways _ (or_parts _ _ none).1 (and_from (eqb a 0x2f) (eqb c 0x2f || eqb c 0x2a) parts.0 (or_left (eqb c 0x2f) (eqb c 0x2a) parts.1)))

no_block : (a c : ℕ) → goes_on a c ≡ false → (eqb a 0x2f && eqb c 0x2a) ≡ false
unfolding goes_on
no_block a c none = false_from_ne_true _ (λ is. let parts = and_parts (eqb a 0x2f) (eqb c 0x2a) is in both_ways _ (or_parts _ _ none).1 (and_from (eqb a 0x2f) (eqb c 0x2f || eqb c 0x2a) parts.0 (or_right (eqb c 0x2f) (eqb c 0x2a) parts.1)))

-- no comment begins where a punctuator does that the next byte does not go on with
one_no_comment : (a : ℕ) (rest : List ℕ) → begins_with (goes_on a) rest ≡ false → comment_len (a ∷ rest) ≡ None
one_no_comment a [] apart = refl
one_no_comment a (c ∷ cs) apart = cond-false (eqb a 0x2f && eqb c 0x2f) _ _ (no_line a c apart) ∙ cond-false (eqb a 0x2f && eqb c 0x2a) _ _ (no_block a c apart)

longer_no_comment : (a b : ℕ) (t rest : List ℕ) → is_punctuator (a ∷ b ∷ t) ≡ true → (x : Option ℕ) → comment_len (a ∷ b ∷ (t ++ rest)) ≡ x → x ≡ None
longer_no_comment a b t rest punctuator None is = refl
longer_no_comment a b t rest punctuator (Some m) is =
    let alone : b ∷ t ≡ [] = one_slash a (b ∷ t) (comment_sound a (b ∷ (t ++ rest)) m is).slash punctuator in
    cc

pub no_comment : (a : ℕ) (t rest : List ℕ) → is_punctuator (a ∷ t) ≡ true → begins_with (goes_on a) rest ≡ false → comment_len (a ∷ (t ++ rest)) ≡ None
no_comment a [] rest punctuator apart = one_no_comment a rest apart
no_comment a (b ∷ t) rest punctuator apart = longer_no_comment a b t rest punctuator (comment_len (a ∷ b ∷ (t ++ rest))) refl

-- no longer punctuator begins where one does that the next byte does not go on with
pub same_len : (a : ℕ) (t rest : List ℕ) → is_punctuator (a ∷ t) ≡ true → begins_with (goes_on a) rest ≡ false → punctuator_len (a ∷ (t ++ rest)) ≡ suc (length t)
unfolding punctuator_len
same_len a [] [] punctuator apart = cond-true (is_punctuator (a ∷ [])) 1 0 punctuator
same_len a [] (c ∷ []) punctuator apart = cond-false (is_punctuator (a ∷ c ∷ [])) 2 _ (no_two a c apart) ∙ cond-true (is_punctuator (a ∷ [])) 1 0 punctuator
same_len a [] (c ∷ d ∷ r) punctuator apart =
    cond-false (is_punctuator (a ∷ c ∷ d ∷ [])) 3 _ (no_three_second a c d apart)
    ∙ cond-false (is_punctuator (a ∷ c ∷ [])) 2 _ (no_two a c apart)
    ∙ cond-true (is_punctuator (a ∷ [])) 1 0 punctuator
same_len a (b ∷ []) [] punctuator apart = cond-true (is_punctuator (a ∷ b ∷ [])) 2 _ punctuator
same_len a (b ∷ []) (c ∷ r) punctuator apart = cond-false (is_punctuator (a ∷ b ∷ c ∷ [])) 3 _ (no_three_third a b c apart) ∙ cond-true (is_punctuator (a ∷ b ∷ [])) 2 _ punctuator
same_len a (b ∷ c ∷ []) rest punctuator apart = cond-true (is_punctuator (a ∷ b ∷ c ∷ [])) 3 _ punctuator
same_len a (b ∷ c ∷ d ∷ r) rest punctuator apart = absurd (both_ways _ (long_is_no_punctuator a b c d r) punctuator)
