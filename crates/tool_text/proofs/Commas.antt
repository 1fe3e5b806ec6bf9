-- Operands are read between the commas where the grammar has them.
use Rattle.std.proofs.Common.{◌≡◌, ◌≢◌, ℕ, true, false, Bool, not, ◌&&◌, ◌==◌, cond, List, [], ◌∷◌, ◌++◌, map, reverse, inl, inr, refl, ap, sym, ◌∙◌, subst, arith, append_assoc, IsTrue}
use Rattle.std.specs.List.{AllByRecursion, onto_first}
use Rattle.std.proofs.lemmas.Bool.{and_parts, cases_Bool, not-true}
use Rattle.std.proofs.lemmas.Bool.Decides.{Decides-eqb}
use Rattle.std.proofs.lemmas.List.{append-nil, reverse-append, reverse-reverse}
use Rattle.tool_text.specs.Grammar.{AreSeparated, AreSpaces, IsString, SpellsByte, SpellsBytes}
use Rattle.tool_text.specs.declared.separating.Quoting.{Quoting}
use Rattle.tool_text.specs.declared.separating.Quoting.TheVariants.{Outside, Inside, Escaped}
use Rattle.tool_text.specs.Reading.{is_cut, operand_texts, quoting_after, separated, skip_spaces, trimmed}
use Rattle.tool_text.proofs.Values.{equal_numbers}

-- ## Spaces around a text

not_equal : (b c : ℕ) → b ≢ c → (b == c) ≡ false
not_equal b c n = elim (cases_Bool (b == c)) [ inl e ↦ absurd (n (equal_numbers b c e)) | inr e ↦ e ]

spaces_append : (xs ys : List ℕ) → AreSpaces xs → AreSpaces ys → AreSpaces (xs ++ ys)
spaces_append [] ys h k = k
spaces_append (x ∷ xs) ys h k = (h.0, spaces_append xs ys h.1 k)

reverse_more : (x : ℕ) (xs : List ℕ) → reverse (x ∷ xs) ≡ reverse xs ++ x ∷ []
reverse_more x xs = reverse-append (x ∷ []) xs

spaces_reverse : (xs : List ℕ) → AreSpaces xs → AreSpaces (reverse xs)
spaces_reverse [] h = tt
spaces_reverse (x ∷ xs) h = subst AreSpaces (sym (reverse_more x xs)) (spaces_append (reverse xs) (x ∷ []) (spaces_reverse xs h.1) (h.0, tt))

-- what is skipped are spaces
skipped : (xs : List ℕ) → (left : List ℕ) × AreSpaces left × (xs ≡ left ++ skip_spaces xs)
skipped [] = ([], tt, refl)
skipped (x ∷ xs) = by_space (x == 32) refl (skipped xs)
  where
    by_space : (t : Bool) → (x == 32) ≡ t → ((left : List ℕ) × AreSpaces left × (xs ≡ left ++ skip_spaces xs))
        → (left : List ℕ) × AreSpaces left × (x ∷ xs ≡ left ++ cond t (skip_spaces xs) (x ∷ xs))
    by_space true e more = (x ∷ more.0, (equal_numbers x 32 e, more.1), ap (λ t. x ∷ t) more.2)
    by_space false e more = ([], tt, refl)

pub trim_sound : (xs : List ℕ) → (left right : List ℕ) × AreSpaces left × AreSpaces right × (xs ≡ left ++ trimmed xs ++ right)
trim_sound xs =
    let prefix = skipped xs in
    let back = skipped (reverse (skip_spaces xs)) in
    let parts : skip_spaces xs ≡ trimmed xs ++ reverse back.0 =
    sym (reverse-reverse (skip_spaces xs)) ∙ ap reverse back.2 ∙ reverse-append back.0 (skip_spaces (reverse (skip_spaces xs))) in
    (prefix.0, reverse back.0, prefix.1, spaces_reverse back.0 back.1, prefix.2 ∙ ap (λ t. prefix.0 ++ t) parts ∙ sym (append_assoc prefix.0 (trimmed xs) (reverse back.0)))

skip_all : (left rest : List ℕ) → AreSpaces left → skip_spaces (left ++ rest) ≡ skip_spaces rest
skip_all [] rest h = refl
skip_all (x ∷ xs) rest h = ap (λ t. cond t (skip_spaces (xs ++ rest)) (x ∷ xs ++ rest)) ((Decides-eqb x 32).1 h.0) ∙ skip_all xs rest h.1

skip_none : (x : ℕ) (xs : List ℕ) → x ≢ 32 → skip_spaces (x ∷ xs) ≡ x ∷ xs
skip_none x xs n = ap (λ t. cond t (skip_spaces xs) (x ∷ xs)) (not_equal x 32 n)

-- bytes before the first part
abbrev pub onto_all : List ℕ → List (List ℕ) → List (List ℕ)
onto_all [] parts = parts
onto_all (x ∷ xs) parts = onto_first x (onto_all xs parts)

-- The text passes commas without a cut and leaves no string open.
abbrev pub Passes : List ℕ → Type 0
Passes text = (rest : List ℕ) → separated Outside (text ++ rest) ≡ onto_all text (separated Outside rest)

-- One operand's text: it passes commas, and begins and ends with no space.
pub record IsPart (text : List ℕ) : Type 0 where
  pub first : ℕ
  pub after : List ℕ
  pub before : List ℕ
  pub last : ℕ
  pub begins : text ≡ first ∷ after
  pub ends : text ≡ before ++ last ∷ []
  pub first_is : first ≢ 32
  pub last_is : last ≢ 32
  pub passes : Passes text

trim_complete : (left part right : List ℕ) → AreSpaces left → AreSpaces right → IsPart part → trimmed (left ++ part ++ right) ≡ part
trim_complete left part right l r p =
    let prefix : skip_spaces (left ++ part ++ right) ≡ part ++ right =
    ap skip_spaces (append_assoc left part right) ∙ skip_all left (part ++ right) l ∙ ap (λ t. skip_spaces (t ++ right)) p.begins ∙ skip_none p.first (p.after ++ right) p.first_is ∙ ap (λ t. t ++ right) (sym p.begins) in
    let turned : reverse part ≡ p.last ∷ reverse p.before = ap reverse p.ends ∙ reverse-append p.before (p.last ∷ []) in
    let back : skip_spaces (reverse (part ++ right)) ≡ reverse part =
    ap skip_spaces (reverse-append part right) ∙ skip_all (reverse right) (reverse part) (spaces_reverse right r)
    ∙ ap skip_spaces turned ∙ skip_none p.last (reverse p.before) p.last_is ∙ sym turned in
    ap (λ t. reverse (skip_spaces (reverse t))) prefix ∙ ap reverse back ∙ reverse-reverse part

-- ## Parts that pass commas

onto_append : (xs ys : List ℕ) (parts : List (List ℕ)) → onto_all (xs ++ ys) parts ≡ onto_all xs (onto_all ys parts)
onto_append [] ys parts = refl
onto_append (x ∷ xs) ys parts = ap (onto_first x) (onto_append xs ys parts)

onto_part : (xs part : List ℕ) (parts : List (List ℕ)) → onto_all xs (part ∷ parts) ≡ (xs ++ part) ∷ parts
onto_part [] part parts = refl
onto_part (x ∷ xs) part parts = ap (onto_first x) (onto_part xs part parts)

passes_append : (xs ys : List ℕ) → Passes xs → Passes ys → Passes (xs ++ ys)
passes_append xs ys h k rest =
    ap (separated Outside) (append_assoc xs ys rest) ∙ h (ys ++ rest) ∙ ap (onto_all xs) (k rest) ∙ sym (onto_append xs ys (separated Outside rest))

-- a byte that is no `"` and no comma
abbrev pub is_plain : ℕ → Bool
is_plain b = not (b == 34) && not (b == 44)

pub plain_passes : (xs : List ℕ) → AllByRecursion (λ b. IsTrue (is_plain b)) xs → Passes xs
plain_passes [] h rest = refl
plain_passes (x ∷ xs) h rest =
    let parts = and_parts (not (x == 34)) (not (x == 44)) h.0 in
    ap (λ t. cond t ([] ∷ separated Outside (xs ++ rest)) (onto_first x (separated (cond (x == 34) Inside Outside) (xs ++ rest)))) (not-true (x == 44) parts.1)
    ∙ ap (λ t. onto_first x (separated (cond t Inside Outside) (xs ++ rest))) (not-true (x == 34) parts.0)
    ∙ ap (onto_first x) (plain_passes xs h.1 rest)

spaces_plain : (xs : List ℕ) → AreSpaces xs → AllByRecursion (λ b. IsTrue (is_plain b)) xs
spaces_plain [] h = tt
spaces_plain (x ∷ xs) h = (ap is_plain h.0, spaces_plain xs h.1)

spelled_passes : (first tail : List ℕ) (b : ℕ) → SpellsByte first b → separated Inside (first ++ tail) ≡ onto_all first (separated Inside tail)
spelled_passes first tail b (inl h) =
    ap (λ t. separated Inside (t ++ tail)) h.0
    ∙ ap (λ t. onto_first b (separated (cond t Outside (cond (b == 92) Escaped Inside)) tail)) (not_equal b 34 h.2)
    ∙ ap (λ t. onto_first b (separated (cond t Escaped Inside) tail)) (not_equal b 92 h.3)
    ∙ ap (λ t. onto_all t (separated Inside tail)) (sym h.0)
spelled_passes first tail b (inr (inl h)) = ap (λ t. separated Inside (t ++ tail)) h.0 ∙ ap (λ t. onto_all t (separated Inside tail)) (sym h.0)
spelled_passes first tail b (inr (inr (inl h))) = ap (λ t. separated Inside (t ++ tail)) h.0 ∙ ap (λ t. onto_all t (separated Inside tail)) (sym h.0)
spelled_passes first tail b (inr (inr (inr (inl h)))) = ap (λ t. separated Inside (t ++ tail)) h.0 ∙ ap (λ t. onto_all t (separated Inside tail)) (sym h.0)
spelled_passes first tail b (inr (inr (inr (inr h)))) = ap (λ t. separated Inside (t ++ tail)) h.0 ∙ ap (λ t. onto_all t (separated Inside tail)) (sym h.0)

inside_passes : (inside bytes tail : List ℕ) → SpellsBytes inside bytes → separated Inside (inside ++ tail) ≡ onto_all inside (separated Inside tail)
inside_passes inside [] tail h = ap (λ t. separated Inside (t ++ tail)) h ∙ ap (λ t. onto_all t (separated Inside tail)) (sym h)
inside_passes inside (b ∷ bs) tail h =
    ap (λ t. separated Inside (t ++ tail)) h.3 ∙ ap (separated Inside) (append_assoc h.0 h.1 tail) ∙ spelled_passes h.0 (h.1 ++ tail) b h.2
    ∙ ap (onto_all h.0) (inside_passes h.1 bs tail h.4) ∙ sym (onto_append h.0 h.1 (separated Inside tail)) ∙ ap (λ t. onto_all t (separated Inside tail)) (sym h.3)

pub string_part : (text bytes : List ℕ) → IsString text bytes → IsPart text
string_part text bytes h = record {
  first = 34;
  after = h.0 ++ 34 ∷ [];
  before = 34 ∷ h.0;
  last = 34;
  begins = h.1;
  ends = h.1;
  first_is = λ (e : 34 ≡ 32). omega arith;
  last_is = λ (e : 34 ≡ 32). omega arith;
  passes = λ rest.
      ap (λ t. separated Outside (t ++ rest)) h.1
      ∙ ap (λ t. onto_first 34 (separated Inside t)) (append_assoc h.0 (34 ∷ []) rest)
      ∙ ap (onto_first 34) (inside_passes h.0 bytes (34 ∷ rest) h.2)
      ∙ ap (onto_first 34) (sym (onto_append h.0 (34 ∷ []) (separated Outside rest)))
      ∙ ap (λ t. onto_all t (separated Outside rest)) (sym h.1);
}

-- a byte of a text without spaces, strings and commas
abbrev pub is_solid : ℕ → Bool
is_solid b = not (b == 32) && is_plain b

pub record Last (x : ℕ) (xs : List ℕ) : Type 0 where
  pub before : List ℕ
  pub last : ℕ
  pub is : x ∷ xs ≡ before ++ last ∷ []
  pub solid : IsTrue (is_solid last)

last_of : (x : ℕ) (xs : List ℕ) → AllByRecursion (λ b. IsTrue (is_solid b)) (x ∷ xs) → Last x xs
last_of x [] h = record { before = []; last = x; is = refl; solid = h.0 }
last_of x (y ∷ ys) h =
    let more = last_of y ys h.1 in
    record { before = x ∷ more.before; last = more.last; is = ap (λ t. x ∷ t) more.is; solid = more.solid }

no_space : (b : ℕ) → IsTrue (is_solid b) → b ≢ 32
no_space b h = λ e. let f : false ≡ true = ap (λ x. not (x == 32) && is_plain x) (sym e) ∙ h in cc

solid_plain : (xs : List ℕ) → AllByRecursion (λ b. IsTrue (is_solid b)) xs → AllByRecursion (λ b. IsTrue (is_plain b)) xs
solid_plain [] h = tt
solid_plain (x ∷ xs) h = ((and_parts (not (x == 32)) (is_plain x) h.0).1, solid_plain xs h.1)

pub solid_part : (x : ℕ) (xs : List ℕ) → AllByRecursion (λ b. IsTrue (is_solid b)) (x ∷ xs) → IsPart (x ∷ xs)
solid_part x xs h =
    let back = last_of x xs h in
    record {
      first = x;
      after = xs;
      before = back.before;
      last = back.last;
      begins = refl;
      ends = back.is;
      first_is = no_space x h.0;
      last_is = no_space back.last back.solid;
      passes = plain_passes (x ∷ xs) (solid_plain (x ∷ xs) h);
    }

-- ## Lists of operands

padded : (left part right rest : List ℕ) → AreSpaces left → AreSpaces right → IsPart part
    → separated Outside ((left ++ part ++ right) ++ rest) ≡ onto_all (left ++ part ++ right) (separated Outside rest)
padded left part right rest l r p =
    passes_append (left ++ part) right (passes_append left part (plain_passes left (spaces_plain left l)) p.passes)
    (plain_passes right (spaces_plain right r)) rest

pub separated_complete : (texts : List (List ℕ)) (text : List ℕ) → AreSeparated texts text → AllByRecursion IsPart texts → operand_texts text ≡ texts
separated_complete [] text h parts = absurd h
separated_complete (part ∷ []) text h parts =
    let whole = h.0 ++ part ++ h.1 in
    ap operand_texts (h.4 ∙ sym (append-nil whole)) ∙ ap (map trimmed) (padded h.0 part h.1 [] h.2 h.3 parts.0 ∙ onto_part whole [] [])
    ∙ ap (λ t. trimmed t ∷ []) (append-nil whole) ∙ ap (λ t. t ∷ []) (trim_complete h.0 part h.1 h.2 h.3 parts.0)
separated_complete (part ∷ next' ∷ more) text h parts =
    let whole = h.0 ++ part ++ h.1 in
    ap operand_texts h.5 ∙ ap (map trimmed) (padded h.0 part h.1 (44 ∷ h.2) h.3 h.4 parts.0 ∙ onto_part whole [] (separated Outside h.2))
    ∙ ap (λ t. trimmed t ∷ operand_texts h.2) (append-nil whole)
    ∙ ap (λ t. t ∷ operand_texts h.2) (trim_complete h.0 part h.1 h.3 h.4 parts.0)
    ∙ ap (λ ts. part ∷ ts) (separated_complete (next' ∷ more) h.2 h.6 parts.1)

-- the text is these parts with commas between them
abbrev Joined : List (List ℕ) → List ℕ → Type 0
Joined [] text = ⊥
Joined (part ∷ []) text = text ≡ part
Joined (part ∷ next' ∷ more) text = (rest : List ℕ) × (text ≡ part ++ 44 ∷ rest) × Joined (next' ∷ more) rest

joined_cut : (parts : List (List ℕ)) (text : List ℕ) → Joined parts text → Joined ([] ∷ parts) (44 ∷ text)
joined_cut [] text h = absurd h
joined_cut (part ∷ more) text h = (text, refl, h)

joined_on : (b : ℕ) (parts : List (List ℕ)) (text : List ℕ) → Joined parts text → Joined (onto_first b parts) (b ∷ text)
joined_on b [] text h = absurd h
joined_on b (part ∷ []) text h = ap (λ t. b ∷ t) h
joined_on b (part ∷ next' ∷ more) text h = (h.0, ap (λ t. b ∷ t) h.1, h.2)

cut_is_comma : (q : Quoting) (b : ℕ) → is_cut q b ≡ true → b ≡ 44
cut_is_comma Outside b e = equal_numbers b 44 e
cut_is_comma Inside b e = cc
cut_is_comma Escaped b e = cc

joined : (q : Quoting) (text : List ℕ) → Joined (separated q text) text
joined q [] = refl
joined q (b ∷ bs) = by_cut (is_cut q b) refl (joined Outside bs) (joined (quoting_after q b) bs)
  where
    by_cut : (t : Bool) → is_cut q b ≡ t → Joined (separated Outside bs) bs → Joined (separated (quoting_after q b) bs) bs
        → Joined (cond t ([] ∷ separated Outside bs) (onto_first b (separated (quoting_after q b) bs))) (b ∷ bs)
    by_cut true e h k = subst (λ c. Joined ([] ∷ separated Outside bs) (c ∷ bs)) (sym (cut_is_comma q b e)) (joined_cut (separated Outside bs) bs h)
    by_cut false e h k = joined_on b (separated (quoting_after q b) bs) bs k

separated_from : (parts : List (List ℕ)) (text : List ℕ) → Joined parts text → AreSeparated (map trimmed parts) text
separated_from [] text h = absurd h
separated_from (part ∷ []) text h =
    let around = trim_sound part in (around.0, around.1, around.2, around.3, h ∙ around.4)
separated_from (part ∷ next' ∷ more) text h =
    let around = trim_sound part in (
      around.0,
      around.1,
      h.0,
      around.2,
      around.3,
      h.1 ∙ ap (λ t. t ++ 44 ∷ h.0) around.4,
      separated_from (next' ∷ more) h.0 h.2,
    )

pub separated_sound : (text : List ℕ) → AreSeparated (operand_texts text) text
separated_sound text = separated_from (separated Outside text) text (joined Outside text)
