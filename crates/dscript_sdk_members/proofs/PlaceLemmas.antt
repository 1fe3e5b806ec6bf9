-- Where a text first occurs in another, and the pieces around it.
use Rattle.std.proofs.Common.{append_assoc, append-nil, ◌≢◌, ◌≡◌, ℕ, zero, suc, ◌+◌, ◌-◌, Bool, true, false, ◌||◌, cond, nat_eq, List, [], ◌∷◌, ◌++◌, map, length, take, drop, refl, ap, sym, ◌∙◌, arith, Option, Some, None, is_some}
use Rattle.std.specs.Prelude.{option_map}
use Rattle.std.specs.List.{onto_first, starts_with}
use Rattle.std.proofs.lemmas.List.{drop-drop, map-append}
use Rattle.dscript_value.specs.Plain as plain
use Rattle.dscript_value.specs.Plain.{Plain}
use Rattle.dscript_sdk_members.specs.FirstPlaces.{first_place}
use Rattle.dscript_sdk_members.specs.TextMembers.{has_text, pieces_after}

-- ## Places

-- a text that occurs in another has a first place there
is_some-end : (b : Bool) → is_some {T = ℕ} (cond b (Some 0) None) ≡ b
is_some-end true = refl
is_some-end false = refl

is_some-on : (b : Bool) (o : Option ℕ) → is_some {T = ℕ} (cond b (Some 0) (option_map suc o)) ≡ (b || is_some o)
is_some-on true o = refl
is_some-on false None = refl
is_some-on false (Some n) = refl

pub has_text-first_place : (other text : List ℕ) → is_some (first_place other text) ≡ has_text text other
has_text-first_place other [] = is_some-end (starts_with nat_eq [] other)
has_text-first_place other (b ∷ bs) =
    is_some-on (starts_with nat_eq (b ∷ bs) other) (first_place other bs)
    ∙ ap (λ r. starts_with nat_eq (b ∷ bs) other || r) (has_text-first_place other bs)

-- ## Pieces

-- the pieces up to the first place of the separator, and of what follows it
pub pieces_from : List ℕ → List ℕ → Option ℕ → List (List ℕ)
pieces_from separator text None = text ∷ []
pieces_from separator text (Some n) = take n text ∷ pieces_after separator 0 (drop (n + length separator) text)

pieces-skip : (separator : List ℕ) (n : ℕ) (text : List ℕ) → pieces_after separator n text ≡ pieces_after separator 0 (drop n text)
pieces-skip separator zero text = refl
pieces-skip separator (suc n) [] = refl
pieces-skip separator (suc n) (b ∷ bs) = pieces-skip separator n bs

pieces-cut : (c : ℕ) (cs : List ℕ) (b : ℕ) (bs : List ℕ) (is : Bool) (next : Option ℕ) → starts_with nat_eq (b ∷ bs) (c ∷ cs) ≡ is
    → pieces_after (c ∷ cs) 0 bs ≡ pieces_from (c ∷ cs) bs next
    → pieces_after (c ∷ cs) 0 (b ∷ bs) ≡ pieces_from (c ∷ cs) (b ∷ bs) (cond is (Some 0) (option_map suc next))
unfolding pieces_from
pieces-cut c cs b bs true next e h =
    ap (λ t. cond t ([] ∷ pieces_after (c ∷ cs) (length (c ∷ cs) - 1) bs) (onto_first b (pieces_after (c ∷ cs) 0 bs))) e
    ∙ ap (λ ps. [] ∷ ps) (ap (λ n. pieces_after (c ∷ cs) n bs) (omega arith) ∙ pieces-skip (c ∷ cs) (length cs) bs)
    ∙ (let same : suc (length cs) ≡ 0 + suc (length cs) = omega arith in
    ap (λ n. [] ∷ pieces_after (c ∷ cs) 0 (drop n (b ∷ bs))) same)
pieces-cut c cs b bs false None e h =
    ap (λ t. cond t ([] ∷ pieces_after (c ∷ cs) (length (c ∷ cs) - 1) bs) (onto_first b (pieces_after (c ∷ cs) 0 bs))) e
    ∙ ap (onto_first b) h
pieces-cut c cs b bs false (Some n) e h =
    ap (λ t. cond t ([] ∷ pieces_after (c ∷ cs) (length (c ∷ cs) - 1) bs) (onto_first b (pieces_after (c ∷ cs) 0 bs))) e
    ∙ ap (onto_first b) h
    ∙ (let same : suc (n + suc (length cs)) ≡ suc n + suc (length cs) = omega arith in
    ap (λ m. (b ∷ take n bs) ∷ pieces_after (c ∷ cs) 0 (drop m (b ∷ bs))) same)

pieces-end : (c : ℕ) (cs : List ℕ) → pieces_from (c ∷ cs) [] (first_place (c ∷ cs) []) ≡ [] ∷ []
unfolding pieces_from
pieces-end c cs = refl

-- a text is cut at the first place of the separator
pub pieces-first_place : (c : ℕ) (cs text : List ℕ)
    → pieces_after (c ∷ cs) 0 text ≡ pieces_from (c ∷ cs) text (first_place (c ∷ cs) text)
pieces-first_place c cs [] = sym (pieces-end c cs)
pieces-first_place c cs (b ∷ bs) =
    pieces-cut c cs b bs (starts_with nat_eq (b ∷ bs) (c ∷ cs)) (first_place (c ∷ cs) bs) refl (pieces-first_place c cs bs)

-- ## Cutting piece after piece

pieces_at : (separator rest : List ℕ) (n : ℕ) → separator ≢ [] → first_place separator rest ≡ Some n
    → pieces_after separator 0 rest ≡ take n rest ∷ pieces_after separator 0 (drop (n + length separator) rest)
unfolding pieces_from
pieces_at [] rest n some e = absurd (some refl)
pieces_at (c ∷ cs) rest n some e = pieces-first_place c cs rest ∙ ap (pieces_from (c ∷ cs) rest) e

pub last_piece : (separator rest : List ℕ) → separator ≢ [] → first_place separator rest ≡ None
    → pieces_after separator 0 rest ≡ rest ∷ []
unfolding pieces_from
last_piece [] rest some e = absurd (some refl)
last_piece (c ∷ cs) rest some e = pieces-first_place c cs rest ∙ ap (pieces_from (c ∷ cs) rest) e

-- one more value at the end of a list
pub one_more : {X Y : Type 0} (f : X → Y) (old new : List X) (x : X) (y : Y) (ys : List Y) → new ≡ old ++ x ∷ [] → f x ≡ y
    → map f new ++ ys ≡ map f old ++ (y ∷ ys)
one_more f old new x y ys e h =
    ap (λ l. map f l ++ ys) e ∙ ap (λ l. l ++ ys) (map-append f old (x ∷ [])) ∙ append_assoc (map f old) (f x ∷ []) ys
    ∙ ap (λ z. map f old ++ (z ∷ ys)) h

pub piece_on : {X : Type 0} (f : X → Plain) (separator rest before following : List ℕ) (old new : List X) (x : X) (n : ℕ) (whole : List Plain)
    → separator ≢ [] → first_place separator rest ≡ Some n → before ≡ take n rest → following ≡ drop (length separator) (drop n rest)
    → new ≡ old ++ x ∷ [] → f x ≡ plain.Text before
    → map f old ++ map plain.Text (pieces_after separator 0 rest) ≡ whole
    → map f new ++ map plain.Text (pieces_after separator 0 following) ≡ whole
piece_on f separator rest before following old new x n whole some e b d pushed is h =
    let left : following ≡ drop (n + length separator) rest = d ∙ drop-drop (length separator) n rest in
    one_more f old new x (plain.Text before) (map plain.Text (pieces_after separator 0 following)) pushed is
    ∙ ap (λ p. map f old ++ (plain.Text p ∷ map plain.Text (pieces_after separator 0 following))) b
    ∙ ap (λ r. map f old ++ (plain.Text (take n rest) ∷ map plain.Text (pieces_after separator 0 r))) left
    ∙ ap (λ ps. map f old ++ map plain.Text ps) (sym (pieces_at separator rest n some e))
    ∙ h

pub piece_end : {X : Type 0} (f : X → Plain) (separator rest : List ℕ) (old new : List X) (x : X) (whole : List Plain)
    → separator ≢ [] → first_place separator rest ≡ None → new ≡ old ++ x ∷ [] → f x ≡ plain.Text rest
    → map f old ++ map plain.Text (pieces_after separator 0 rest) ≡ whole → map f new ≡ whole
piece_end f separator rest old new x whole some e pushed is h =
    sym (append-nil (map f new)) ∙ one_more f old new x (plain.Text rest) [] pushed is
    ∙ ap (λ ps. map f old ++ map plain.Text ps) (sym (last_piece separator rest some e)) ∙ h
