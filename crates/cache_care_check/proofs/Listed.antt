-- The lines of a check, and its counts.
use Rattle.std.proofs.Common.{◌≡◌, ℕ, ◌+◌, ◌<◌, ◌≤◌, zero, suc, Bool, true, false, ◌||◌, List, [], ◌∷◌, ◌++◌, length, map, string_bytes, take, get_or, String, Global, refl, sym, ap, ◌∙◌, subst, append_assoc, append-nil, arith}
use Rattle.std.proofs.lemmas.Bool.{or_parts}
use Rattle.std.proofs.lemmas.List.{get_or-map, length-map, length-take-le, map-append, take_all, take_more}
use Rattle.cache_care_check.specs.CareLists.{Remark, entry_count, has_bad_remark, is_bad, line_remark, one_entry, remark_of, remarks_of}
use Rattle.cache_care_check.specs.declared.checking.CareLine.{CareLine}
use Rattle.cache_care_check.specs.declared.surveying.Finding.{Finding}
use Rattle.cache_care_check.specs.declared.surveying.Finding.TheVariants as findings

-- ## Lines

remarks_push : (names : List (List ℕ)) (found : List Finding) (name : List ℕ) (f : Finding) → length found ≡ length names
    → remarks_of (names ++ name ∷ []) (found ++ f ∷ []) ≡ remarks_of names found ++ remark_of name f
remarks_push [] [] name f e = append-nil (remark_of name f)
remarks_push [] (g ∷ found) name f e = absurd (omega (arith, e))
remarks_push (q ∷ names) [] name f e = absurd (omega (arith, e))
remarks_push (q ∷ names) (g ∷ found) name f e =
    ap (λ (rs : List Remark). remark_of q g ++ rs) (remarks_push names found name f (omega (arith, e)))
    ∙ sym (append_assoc (remark_of q g) (remarks_of names found) (remark_of name f))

-- the remarks on the first so many names
abbrev pub remarks_to : List (List ℕ) → List Finding → ℕ → List Remark
remarks_to names found k = remarks_of (take k names) (take k found)

pub remarks_more : (names : List (List ℕ)) (found : List Finding) (k : ℕ) (name : List ℕ) (f : Finding) → length found ≡ length names
    → k < length names → name ≡ get_or names k name → f ≡ get_or found k f
    → remarks_to names found (k + 1) ≡ remarks_to names found k ++ remark_of name f
remarks_more names found k name f e l name_is f_is =
    let m : k < length found = omega (arith, e, l) in
    let ns : take (k + 1) names ≡ take k names ++ name ∷ [] =
    take_more names k name l ∙ ap (λ (q : List ℕ). take k names ++ q ∷ []) (sym name_is) in
    let fs : take (k + 1) found ≡ take k found ++ f ∷ [] =
    take_more found k f m ∙ ap (λ (g : Finding). take k found ++ g ∷ []) (sym f_is) in
    ap (λ (x : List (List ℕ)). remarks_of x (take (k + 1) found)) ns
    ∙ ap (λ (x : List Finding). remarks_of (take k names ++ name ∷ []) x) fs
    ∙ remarks_push (take k names) (take k found) name f (same_size k names found e)
  where
    same_size : (k : ℕ) (names : List (List ℕ)) (found : List Finding) → length found ≡ length names → length (take k found) ≡ length (take k names)
    same_size zero names found e = refl
    same_size (suc k) [] [] e = refl
    same_size (suc k) [] (g ∷ found) e = absurd (omega (arith, e))
    same_size (suc k) (q ∷ names) [] e = absurd (omega (arith, e))
    same_size (suc k) (q ∷ names) (g ∷ found) e = ap (λ n. suc n) (same_size k names found (omega (arith, e)))

-- a line is added where the name is told
pub line_added : (before now : List CareLine) (line : CareLine) (more : List Remark) → map line_remark (line ∷ []) ≡ more → now ≡ before ++ line ∷ []
    → map line_remark now ≡ map line_remark before ++ more
line_added before now line more k e =
    ap (map line_remark) e ∙ map-append line_remark before (line ∷ []) ∙ ap (λ (rs : List Remark). map line_remark before ++ rs) k

-- and none where it is not
pub none_added : (before : List CareLine) (more : List Remark) → [] ≡ more → map line_remark before ≡ map line_remark before ++ more
none_added before more k = sym (append-nil (map line_remark before)) ∙ ap (λ (rs : List Remark). map line_remark before ++ rs) k

-- the line of one more name
pub lines_more : (names : List (String Global)) (found : List Finding) (k : ℕ) (name : String Global) (f : Finding) (before now : List Remark)
    → length found ≡ length names → k < length names → name ≡ get_or names k name → f ≡ get_or found k f
    → before ≡ remarks_to (map string_bytes names) found k → now ≡ before ++ remark_of (string_bytes name) f
    → now ≡ remarks_to (map string_bytes names) found (k + 1)
lines_more names found k name f before now e l name_is f_is so_far more =
    more
    ∙ ap (λ (rs : List Remark). rs ++ remark_of (string_bytes name) f) so_far
    ∙ sym (remarks_more (map string_bytes names) found k (string_bytes name) f (e ∙ sym (length-map names string_bytes))
    (omega (arith, l, length-map names string_bytes))
    (ap string_bytes name_is ∙ sym (get_or-map string_bytes names k name (string_bytes name) l)) f_is)

pub remarks_all : (names : List (List ℕ)) (found : List Finding) (k : ℕ) → length found ≡ length names → length names ≤ k
    → remarks_to names found k ≡ remarks_of names found
remarks_all names found k e l =
    ap (λ (ns : List (List ℕ)). remarks_of ns (take k found)) (take_all k names l)
    ∙ ap (remarks_of names) (take_all k found (omega (arith, e, l)))

-- ## Counts

pub count_push : (found : List Finding) (f : Finding) → entry_count (found ++ f ∷ []) ≡ entry_count found + one_entry f
count_push [] f = omega arith
count_push (g ∷ found) f = omega (arith, count_push found f)

one_most : (f : Finding) → one_entry f ≤ 1
one_most findings.Damaged = omega arith
one_most findings.Bad = omega arith
one_most findings.Honest = omega arith
one_most findings.Other = omega arith

pub count_most : (found : List Finding) → entry_count found ≤ length found
count_most [] = omega arith
count_most (g ∷ found) = omega (arith, count_most found, one_most g)

-- the entries among the first so many findings are not more than a number of 64 bits
pub count_fits : (found : List Finding) (k n count more : ℕ) (f : Finding) → k < length found → length found < n → count ≡ entry_count (take k found)
    → more ≡ one_entry f → count + more < n
count_fits found k n count more f l m count_is more_is =
    omega (arith, l, m, count_is, more_is, count_most (take k found), length-take-le k found (omega (arith, l)), one_most f)

pub count_more : (found : List Finding) (k count more : ℕ) (f : Finding) → k < length found → f ≡ get_or found k f → count ≡ entry_count (take k found)
    → more ≡ one_entry f → count + more ≡ entry_count (take (k + 1) found)
count_more found k count more f l f_is count_is more_is =
    let next : take (k + 1) found ≡ take k found ++ f ∷ [] =
    take_more found k f l ∙ ap (λ (g : Finding). take k found ++ g ∷ []) (sym f_is) in
    omega (arith, count_is, more_is, count_push (take k found) f, ap entry_count next)

-- ## Bad entries

-- the first so many lines tell of none
none_bad_next : (lines : List CareLine) (k : ℕ) (line : CareLine) → k < length lines → line ≡ get_or lines k line
    → has_bad_remark (map line_remark (take k lines)) ≡ false → is_bad (line_remark line).0 ≡ false
    → has_bad_remark (map line_remark (take (suc k) lines)) ≡ false
none_bad_next [] k line l is none good = absurd (omega (arith, l))
none_bad_next (x ∷ lines) zero line l is none good =
    ap (λ (y : CareLine). is_bad (line_remark y).0 || false) (sym is) ∙ ap (λ (b : Bool). b || false) good
none_bad_next (x ∷ lines) (suc k) line l is none good =
    let parts = or_parts (is_bad (line_remark x).0) (has_bad_remark (map line_remark (take k lines))) none in
    ap (λ (b : Bool). b || has_bad_remark (map line_remark (take (suc k) lines))) parts.0
    ∙ none_bad_next lines k line (omega (arith, l)) is parts.1 good

pub none_bad_more : (lines : List CareLine) (k : ℕ) (line : CareLine) → k < length lines → line ≡ get_or lines k line
    → has_bad_remark (map line_remark (take k lines)) ≡ false → is_bad (line_remark line).0 ≡ false
    → has_bad_remark (map line_remark (take (k + 1) lines)) ≡ false
none_bad_more lines k line l is none good =
    let next : suc k ≡ k + 1 = omega arith in
    subst (λ (n : ℕ). has_bad_remark (map line_remark (take n lines)) ≡ false) next (none_bad_next lines k line l is none good)

pub bad_here : (lines : List CareLine) (k : ℕ) (line : CareLine) → k < length lines → line ≡ get_or lines k line → is_bad (line_remark line).0 ≡ true
    → has_bad_remark (map line_remark lines) ≡ true
bad_here [] k line l is bad = absurd (omega (arith, l))
bad_here (x ∷ lines) zero line l is bad =
    ap (λ (b : Bool). b || has_bad_remark (map line_remark lines)) (ap (λ (y : CareLine). is_bad (line_remark y).0) (sym is) ∙ bad)
bad_here (x ∷ lines) (suc k) line l is bad =
    ap (λ (b : Bool). is_bad (line_remark x).0 || b) (bad_here lines k line (omega (arith, l)) is bad) ∙ or_true (is_bad (line_remark x).0)
  where
    or_true : (b : Bool) → (b || true) ≡ true
    or_true true = refl
    or_true false = refl

pub none_bad_all : (lines : List CareLine) (k : ℕ) → length lines ≤ k → has_bad_remark (map line_remark (take k lines)) ≡ false
    → has_bad_remark (map line_remark lines) ≡ false
none_bad_all lines k l none = ap (λ (ls : List CareLine). has_bad_remark (map line_remark ls)) (sym (take_all k lines l)) ∙ none
