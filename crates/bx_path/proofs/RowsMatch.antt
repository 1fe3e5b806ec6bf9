-- The rows of the matching table are right: each byte of a name gives the row of a longer suffix of it.
use Rattle.std.proofs.Common.{inl, inr, ◌≡◌, ℕ, ◌<◌, ◌≤◌, ◌+◌, Bool, true, false, cond, ◌&&◌, ◌||◌, ◌==◌, List, [], ◌∷◌, length, get_or, set, drop, refl, ap, sym, ◌∙◌, subst, arith}
use Rattle.std.proofs.lemmas.Bool.{cases_eq}
use Rattle.std.proofs.lemmas.List.{drop_more, drop_all, get_or-set_same, get_or-set_other}
use Rattle.bx_path.specs.Globbing.{is_match, one_byte, some_suffix}
use Rattle.bx_path.specs.Rows.{IsRow}

-- ## The entry of one suffix

at_nothing : (p : ℕ) (ps : List ℕ) → is_match (p ∷ ps) [] ≡ (p == 42 && is_match ps [])
at_nothing p ps = by_star (p == 42)
  where
    by_star : (t : Bool) → cond t (some_suffix (is_match ps) []) (one_byte p (is_match ps) []) ≡ (t && is_match ps [])
    by_star true = refl
    by_star false = refl

-- what is kept of a longer suffix of the name is by what is known of the pattern's rest, or of the name's
at_byte : (p b : ℕ) (ps bs : List ℕ)
    → is_match (p ∷ ps) (b ∷ bs) ≡ cond (p == 42) (is_match ps (b ∷ bs) || is_match (p ∷ ps) bs) ((p == 63 || p == b) && is_match ps bs)
at_byte p b ps bs = by_star (p == 42)
  where
    by_star : (t : Bool) → cond t (some_suffix (is_match ps) (b ∷ bs)) (one_byte p (is_match ps) (b ∷ bs))
        ≡ cond t (is_match ps (b ∷ bs) || cond t (some_suffix (is_match ps) bs) (one_byte p (is_match ps) bs)) ((p == 63 || p == b) && is_match ps bs)
    by_star true = refl
    by_star false = refl

-- ## The row of the empty name

nothing_left : (pattern : List ℕ) → is_match (drop (length pattern) pattern) [] ≡ true
nothing_left pattern = ap (λ ps. is_match ps []) (drop_all (length pattern) pattern (omega arith))

-- from this place on the row is right
abbrev pub IsRightFrom : ℕ → List ℕ → List ℕ → List Bool → Type 0
IsRightFrom at pattern name row = (k : ℕ) → at ≤ k → k ≤ length pattern → get_or row k false ≡ is_match (drop k pattern) name

pub start_init : (pattern : List ℕ) (row : List Bool) → length row ≡ length pattern + 1 → IsRightFrom (length pattern) pattern [] (set row (length pattern) true)
start_init pattern row l k h n =
    let same : k ≡ length pattern = omega (arith, h, n) in
    subst (λ i. get_or (set row (length pattern) true) i false ≡ is_match (drop i pattern) []) (sym same)
    (get_or-set_same row (length pattern) true false (omega (arith, l)) ∙ sym (nothing_left pattern))

pub start_more : (pattern : List ℕ) (row : List Bool) (at m : ℕ) (new : Bool) → at ≡ m + 1 → at ≤ length pattern → length row ≡ length pattern + 1
    → new ≡ (get_or pattern m 0 == 42 && get_or row at false) → IsRightFrom at pattern [] row → IsRightFrom m pattern [] (set row m new)
start_more pattern row at m new e l size is h k low high = elim (cases_eq k m) [
  | inl same ↦ subst (λ i. get_or (set row m new) i false ≡ is_match (drop i pattern) []) (sym same)
      (get_or-set_same row m new false (omega (arith, e, l, size)) ∙ is
      ∙ ap (λ b. get_or pattern m 0 == 42 && b) (h at (omega arith) l ∙ ap (λ i. is_match (drop i pattern) []) e)
      ∙ sym (at_nothing (get_or pattern m 0) (drop (m + 1) pattern)) ∙ ap (λ ps. is_match ps []) (sym (drop_more pattern m 0 (omega (arith, e, l)))))
  | inr differ ↦ get_or-set_other row m k new false differ ∙ h k (omega (arith, e, low, differ)) high
]

pub whole_row : (pattern name : List ℕ) (row : List Bool) → length row ≡ length pattern + 1 → IsRightFrom 0 pattern name row → IsRow pattern name row
whole_row pattern name row size h = record { size = size; each = λ k n. h k (omega arith) n }

-- ## One byte more of the name

-- before this place the row is that of the name without the byte
abbrev pub IsOldBefore : ℕ → List ℕ → List ℕ → List Bool → Type 0
IsOldBefore at pattern name row = (k : ℕ) → k < at → get_or row k false ≡ is_match (drop k pattern) name

-- the row from this place on, before it, and the old entry of the place
pub record IsHalf (at : ℕ) (pattern : List ℕ) (byte : ℕ) (name : List ℕ) (after : Bool) (row : List Bool) : Type 0 where
  pub old : IsOldBefore at pattern name row
  pub new : IsRightFrom at pattern (byte ∷ name) row
  pub here : after ≡ is_match (drop at pattern) name

pub byte_init : (pattern : List ℕ) (byte : ℕ) (name : List ℕ) (row : List Bool) → IsRow pattern name row
    → IsHalf (length pattern) pattern byte name (get_or row (length pattern) false) (set row (length pattern) false)
byte_init pattern byte name row r =
    let size = r.size in
    record {
      old = λ k h. get_or-set_other row (length pattern) k false false (omega (arith, h)) ∙ r.each k (omega (arith, h));
      new = λ k h n.
          let same : k ≡ length pattern = omega (arith, h, n) in
          subst (λ i. get_or (set row (length pattern) false) i false ≡ is_match (drop i pattern) (byte ∷ name)) (sym same)
          (get_or-set_same row (length pattern) false false (omega (arith, size)) ∙ sym (ap (λ ps. is_match ps (byte ∷ name)) (drop_all (length pattern) pattern (omega arith))));
      here = r.each (length pattern) (omega arith);
    }

pub byte_more : (pattern : List ℕ) (byte : ℕ) (name : List ℕ) (after : Bool) (row : List Bool) (at m : ℕ) (new : Bool) → at ≡ m + 1 → at ≤ length pattern
    → length row ≡ length pattern + 1
    → new ≡ cond (get_or pattern m 0 == 42) (get_or row at false || get_or row m false) ((get_or pattern m 0 == 63 || get_or pattern m 0 == byte) && after)
    → IsHalf at pattern byte name after row → IsHalf m pattern byte name (get_or row m false) (set row m new)
byte_more pattern byte name after row at m new e l size is h =
    let p = get_or pattern m 0 in
    let ps = drop (m + 1) pattern in
    let rest : drop m pattern ≡ p ∷ ps = drop_more pattern m 0 (omega (arith, e, l)) in
    let was : get_or row m false ≡ is_match (p ∷ ps) name = h.old m (omega (arith, e)) ∙ ap (λ q. is_match q name) rest in
    let longer : get_or row at false ≡ is_match ps (byte ∷ name) = h.new at (omega arith) l ∙ ap (λ i. is_match (drop i pattern) (byte ∷ name)) e in
    let rests : after ≡ is_match ps name = h.here ∙ ap (λ i. is_match (drop i pattern) name) e in
    let value : new ≡ is_match (drop m pattern) (byte ∷ name) =
    is ∙ ap (λ t. cond (p == 42) (t || get_or row m false) ((p == 63 || p == byte) && after)) longer
    ∙ ap (λ t. cond (p == 42) (is_match ps (byte ∷ name) || t) ((p == 63 || p == byte) && after)) was
    ∙ ap (λ t. cond (p == 42) (is_match ps (byte ∷ name) || is_match (p ∷ ps) name) ((p == 63 || p == byte) && t)) rests
    ∙ sym (at_byte p byte ps name) ∙ ap (λ q. is_match q (byte ∷ name)) (sym rest) in
    record {
      old = λ k k_low. get_or-set_other row m k new false (omega (arith, k_low)) ∙ h.old k (omega (arith, e, k_low));
      new = λ k low high. elim (cases_eq k m) [
        | inl same ↦ subst (λ i. get_or (set row m new) i false ≡ is_match (drop i pattern) (byte ∷ name)) (sym same)
            (get_or-set_same row m new false (omega (arith, e, l, size)) ∙ value)
        | inr differ ↦ get_or-set_other row m k new false differ ∙ h.new k (omega (arith, e, low, differ)) high
      ];
      here = was ∙ ap (λ q. is_match q name) (sym rest);
    }

pub byte_row : (pattern : List ℕ) (byte : ℕ) (name : List ℕ) (after : Bool) (row : List Bool) (at : ℕ) → at ≡ 0 → length row ≡ length pattern + 1
    → IsHalf at pattern byte name after row → IsRow pattern (byte ∷ name) row
byte_row pattern byte name after row at e size h = record { size = size; each = λ k n. h.new k (omega (arith, e)) n }

-- ## Whole names

pub longer_name : (pattern name : List ℕ) (row : List Bool) (left m : ℕ) → left ≡ m + 1 → left ≤ length name
    → IsRow pattern (get_or name m 0 ∷ drop left name) row → IsRow pattern (drop m name) row
longer_name pattern name row left m e l r =
    subst (λ n. IsRow pattern n row) (sym (drop_more name m 0 (omega (arith, e, l)) ∙ ap (λ i. get_or name m 0 ∷ drop i name) (sym e))) r
