-- Splitting a path's text gives back its atoms, so paths are determined, ordered and nested by their texts.
use Rattle.bx_tree.specs.declared.limits.TheConstants.{MAX_PATH_BYTES}
use Rattle.std.proofs.Common.{leb, inl, inr, get_or, drop, ◌+◌, append_assoc, lit<, lit≤, ◌≡◌, ◌≢◌, ℕ, ◌≤◌, ◌<◌, Bool, true, false, cond, eqb, IsTrue, List, [], ◌∷◌, ◌++◌, length, codes, refl, ap, sym, subst, ◌∙◌, arith}
use Rattle.std.specs.List.{All, AllByRecursion, join_with_byte, slice_split, onto_first}
use Rattle.std.specs.Cmp.Lexicographic.{slice_cmp, pointwise}
use Rattle.std.specs.Ordering.{nat_cmp, ordering_then}
use Rattle.std.specs.declared.cmp.Ordering.{Ordering}
use Rattle.std.specs.declared.cmp.Ordering.TheVariants.{Less, Equal, Greater}
use Rattle.std.proofs.lemmas.Bool.{cases_eq, cases_lt, cases_Bool, ne_eqb, or_from, and_right, lt-leb, false≢true}
use Rattle.std.proofs.lemmas.List.Elements.{All-from_recursion, All-append, All-cons}
use Rattle.std.proofs.lemmas.List.Splits.{slice_split_none, slice_split_at, join_with_byte-slice_split}
use Rattle.std.proofs.lemmas.Slice.Eq.{bytes_eq-Decides}
use Rattle.std.proofs.lemmas.Cmp.{tied_itself, lists_total, nat_list_cmp_total}
use Rattle.std.proofs.lemmas.List.{drop_more, get_or_at, length-append}
use Rattle.std.proofs.lemmas.Str.Ascii.{IsAscii-from_all}
use Rattle.std.proofs.lemmas.Str.{IsUtf8-from_ascii}
use Rattle.std.specs.Str.{IsUtf8}
use Rattle.bx_tree.specs.Paths.{Atoms, IsAtom, IsBelow, IsPath, IsPathText, Names, IsKept, TextBelow, is_atom_byte, path_cmp, path_of, path_text, same_path}
use Rattle.bx_tree.specs.Trees.{IsFirstAtom}
use Rattle.bx_tree.specs.Orders.{equal_texts, same_path_decides}

-- whether a byte is `/`
abbrev pub is_slash : ℕ → Bool
is_slash b = eqb b 47

no_slash_byte : (b : ℕ) → IsTrue (is_atom_byte b) → is_slash b ≡ false
no_slash_byte b h = elim (cases_eq b 47) [
  | inl e ↦ absurd (false≢true (subst (λ x. IsTrue (is_atom_byte x)) e h))
  | inr n ↦ ne_eqb b 47 n
]

no_slash : (bs : List ℕ) → AllByRecursion (λ b. IsTrue (is_atom_byte b)) bs → AllByRecursion (λ b. is_slash b ≡ false) bs
no_slash [] h = tt
no_slash (b ∷ bs) h = (no_slash_byte b h.0, no_slash bs h.1)

-- no atom has a `/`
pub atom_has_no_slash : (atom : List ℕ) → IsAtom atom → All (λ b. is_slash b ≡ false) atom
atom_has_no_slash atom h = All-from_recursion (λ b. is_slash b ≡ false) atom (no_slash atom h.bytes)

-- joined atoms are split at `/` into the atoms
pub split-join : (atom : List ℕ) (rest : Atoms) → AllByRecursion IsAtom (atom ∷ rest)
    → slice_split is_slash (join_with_byte 47 (atom ∷ rest)) ≡ atom ∷ rest
split-join atom [] h = slice_split_none is_slash atom (atom_has_no_slash atom h.0)
split-join atom (next ∷ rest) h =
    slice_split_at is_slash atom 47 (join_with_byte 47 (next ∷ rest)) (atom_has_no_slash atom h.0) refl
    ∙ ap (λ parts. atom ∷ parts) (split-join next rest h.1)

-- splitting gives at least one part
parts_again : (p : ℕ → Bool) (bs : List ℕ) → (part : List ℕ) × (parts : List (List ℕ)) × (slice_split p bs ≡ part ∷ parts)
parts_again p [] = ([], [], refl)
parts_again p (b ∷ bs) =
    elim (p b) as (λ t. (part : List ℕ) × (parts : List (List ℕ)) × (cond t ([] ∷ slice_split p bs) (onto_first b (slice_split p bs)) ≡ part ∷ parts)) [
      | true ↦ ([], slice_split p bs, refl)
      | false ↦ let more = parts_again p bs in (b ∷ more.0, more.1, ap (onto_first b) more.2)
    ]

-- the atoms of a path that is not the root
pub atoms_again : (text : List ℕ) (path : Atoms) → Names text path → slice_split is_slash text ≡ path
atoms_again text [] h = absurd (h.not_root refl)
atoms_again text (atom ∷ rest) h = ap (slice_split is_slash) h.text_is ∙ split-join atom rest h.is_path.atoms

-- one text names at most one path
pub one_path : (text : List ℕ) (p q : Atoms) → Names text p → Names text q → p ≡ q
one_path text p q h k = sym (atoms_again text p h) ∙ atoms_again text q k

-- a text whose parts are atoms, and that is short enough, names these atoms
pub named_by_parts : (text : List ℕ) → AllByRecursion IsAtom (slice_split is_slash text) → length text ≤ MAX_PATH_BYTES → Names text (slice_split is_slash text)
named_by_parts text all short =
    let parts = parts_again is_slash text in
    let same = join_with_byte-slice_split 47 text in
    let joined : path_text (slice_split is_slash text) ≡ text = ap path_text parts.2 ∙ ap (join_with_byte 47) (sym parts.2) ∙ same in
    record {
      is_path = record { atoms = all; short = subst (λ t. length t ≤ MAX_PATH_BYTES) (sym joined) short };
      not_root = λ e. absurd (some_part parts.0 parts.1 (sym parts.2 ∙ e));
      text_is = sym joined;
    }
  where
    some_part : (part : List ℕ) (parts : Atoms) → part ∷ parts ≡ [] → ⊥
    some_part part parts e = cc

-- a path text has atoms for parts, and is short enough
pub parts_of_named : (text : List ℕ) → IsPathText text → AllByRecursion IsAtom (slice_split is_slash text) × (length text ≤ MAX_PATH_BYTES)
parts_of_named text h = (
  subst (AllByRecursion IsAtom) (sym (atoms_again text h.0 h.1)) h.1.is_path.atoms,
  subst (λ t. length t ≤ MAX_PATH_BYTES) (sym h.1.text_is) h.1.is_path.short,
)

-- `.` is no path text
pub dot_is_none : IsPathText (codes ".") → ⊥
dot_is_none h = (parts_of_named (codes ".") h).0.0.not_dot refl

not_dot : (text : List ℕ) → IsPathText text → pointwise eqb text (codes ".") ≡ false
not_dot text h = elim (cases_Bool (pointwise eqb text (codes "."))) [
  | inl e ↦ absurd (dot_is_none (subst IsPathText ((bytes_eq-Decides text (codes ".")).0 e) h))
  | inr e ↦ e
]

-- splitting a path text gives the path that it names
pub path_of-named : (text : List ℕ) (path : Atoms) → Names text path → path_of text ≡ path
path_of-named text path h =
    ap (λ t. cond t [] (slice_split is_slash text)) (not_dot text (path, h)) ∙ atoms_again text path h

pub kept_from_named : (text : List ℕ) (path : Atoms) → Names text path → IsKept text
kept_from_named text path h =
    let e = path_of-named text path h in
    record { is_path = subst IsPath (sym e) h.is_path; text_is = ap path_text e ∙ sym h.text_is }

-- paths with equal texts are equal
pub same_from_text : (p q : Atoms) → IsPath p → IsPath q → path_text p ≡ path_text q → p ≡ q
same_from_text [] [] h k e = refl
same_from_text [] (b ∷ bs) h k e = absurd (dot_is_none (b ∷ bs, record { is_path = k; not_root = λ x. cc; text_is = e }))
same_from_text (a ∷ as') [] h k e = absurd (dot_is_none (a ∷ as', record { is_path = h; not_root = λ x. cc; text_is = sym e }))
same_from_text (a ∷ as') (b ∷ bs) h k e = one_path (path_text (a ∷ as')) (a ∷ as') (b ∷ bs)
    (record { is_path = h; not_root = λ x. cc; text_is = refl })
    (record { is_path = k; not_root = λ x. cc; text_is = e })

root_path : IsPath []
root_path = record { atoms = tt; short = lit≤ tt }

-- a path with the root's text is the root
pub root_from_text : (path : Atoms) → IsPath path → path_text path ≡ codes "." → path ≡ []
root_from_text path h e = same_from_text path [] h root_path e

-- the parts of any other text of a path are its atoms
pub atoms_from_text : (path : Atoms) → IsPath path → path_text path ≢ codes "." → slice_split is_slash (path_text path) ≡ path
atoms_from_text path h n = atoms_again (path_text path) path (record { is_path = h; not_root = λ e. n (ap path_text e); text_is = refl })

ordered_by_text : (p q : Atoms) (o : Ordering) → slice_cmp nat_cmp (path_text p) (path_text q) ≡ o → (o ≡ Equal → p ≡ q)
    → ordering_then o (slice_cmp (slice_cmp nat_cmp) p q) ≡ o
ordered_by_text p q Less e same = refl
ordered_by_text p q Equal e same =
    subst (λ r. slice_cmp (slice_cmp nat_cmp) p r ≡ Equal) (same refl) (tied_itself (lists_total nat_list_cmp_total) p)
ordered_by_text p q Greater e same = refl

-- paths are ordered by their texts alone
pub path_cmp-is : (p q : Atoms) → IsPath p → IsPath q → path_cmp p q ≡ slice_cmp nat_cmp (path_text p) (path_text q)
path_cmp-is p q h k =
    ordered_by_text p q (slice_cmp nat_cmp (path_text p) (path_text q)) refl
    (λ e. same_from_text p q h k (equal_texts (path_text p) (path_text q) e))

-- paths are equal exactly if their texts are
pub same_path-is : (p q : Atoms) → IsPath p → IsPath q → same_path p q ≡ pointwise eqb (path_text p) (path_text q)
same_path-is p q h k = elim (cases_Bool (pointwise eqb (path_text p) (path_text q))) [
  | inl e ↦ (same_path_decides p q).1 (same_from_text p q h k ((bytes_eq-Decides (path_text p) (path_text q)).0 e)) ∙ sym e
  | inr e ↦ elim (cases_Bool (same_path p q)) [
    | inl f ↦ absurd (false≢true (sym e ∙ (bytes_eq-Decides (path_text p) (path_text q)).1 (ap path_text ((same_path_decides p q).0 f))))
    | inr f ↦ f ∙ sym e
  ]
]

-- ## The text of what lies below a directory

-- a join of joins
pub join-append : (a : List ℕ) (as' : Atoms) (b : List ℕ) (bs : Atoms)
    → join_with_byte 47 ((a ∷ as') ++ b ∷ bs) ≡ join_with_byte 47 (a ∷ as') ++ 47 ∷ join_with_byte 47 (b ∷ bs)
join-append a [] b bs = refl
join-append a (x ∷ xs) b bs =
    ap (λ t. a ++ 47 ∷ t) (join-append x xs b bs)
    ∙ sym (append_assoc a (47 ∷ join_with_byte 47 (x ∷ xs)) (47 ∷ join_with_byte 47 (b ∷ bs)))

-- a text that starts with joined atoms and a `/` is split into these atoms and the parts of the rest
pub split-below : (a : List ℕ) (as' : Atoms) (rest : List ℕ) → AllByRecursion IsAtom (a ∷ as')
    → slice_split is_slash (join_with_byte 47 (a ∷ as') ++ 47 ∷ rest) ≡ (a ∷ as') ++ slice_split is_slash rest
split-below a [] rest h = slice_split_at is_slash a 47 rest (atom_has_no_slash a h.0) refl
split-below a (b ∷ bs) rest h =
    ap (slice_split is_slash) (append_assoc a (47 ∷ join_with_byte 47 (b ∷ bs)) (47 ∷ rest))
    ∙ slice_split_at is_slash a 47 (join_with_byte 47 (b ∷ bs) ++ 47 ∷ rest) (atom_has_no_slash a h.0) refl
    ∙ ap (λ parts. a ∷ parts) (split-below b bs rest h.1)

no_parts : (p : ℕ → Bool) (bs : List ℕ) → slice_split p bs ≡ [] → ⊥
no_parts p bs e = let parts = parts_again p bs in let f : parts.0 ∷ parts.1 ≡ [] = sym parts.2 ∙ e in cc

-- a path below a directory has a text that starts with the directory's text and a `/`
pub prefix_from_below : (path dir : Atoms) → dir ≢ [] → IsBelow path dir → (rest : List ℕ) × (path_text path ≡ path_text dir ++ 47 ∷ rest)
prefix_from_below path [] h k = absurd (h refl)
prefix_from_below path (a ∷ as') h ([], n, e) = absurd (n refl)
prefix_from_below path (a ∷ as') h (b ∷ bs, n, e) =
    (join_with_byte 47 (b ∷ bs), ap path_text e ∙ join-append a as' b bs)

-- a path whose text starts with a directory's text and a `/` lies below the directory
pub below_from_prefix : (path dir : Atoms) → IsPath path → IsPath dir → dir ≢ [] → (rest : List ℕ) → path_text path ≡ path_text dir ++ 47 ∷ rest → IsBelow path dir
below_from_prefix path [] h k n rest e = absurd (n refl)
below_from_prefix [] (a ∷ as') h k n rest e =
    let parts = parts_again is_slash rest in
    let cut : codes "." ∷ [] ≡ (a ∷ as') ++ slice_split is_slash rest = ap (slice_split is_slash) e ∙ split-below a as' rest k.atoms in
    let one : length (as' ++ slice_split is_slash rest) ≡ 0 = omega (arith, ap length cut) in
    absurd (omega (arith, one, length-append as' (slice_split is_slash rest), ap length parts.2))
below_from_prefix (b ∷ bs) (a ∷ as') h k n rest e = (
  slice_split is_slash rest,
  λ z. no_parts is_slash rest z,
  sym (split-join b bs h.atoms) ∙ ap (slice_split is_slash) e ∙ split-below a as' rest k.atoms,
)

-- the texts of two paths decide whether one is below the other
pub TextBelow-is : (path dir : Atoms) → IsPath path → IsPath dir → (TextBelow (path_text dir) (path_text path) → IsBelow path dir) × (IsBelow path dir → TextBelow (path_text dir) (path_text path))
TextBelow-is path [] h k = (
  λ t. elim t [ inl x ↦ (path, λ e. x.1 (ap path_text e), refl) | inr x ↦ absurd (x.0 refl) ],
  λ b. inl (refl, λ e. b.1 (sym b.2 ∙ same_from_text path [] h k e)),
)
TextBelow-is path (a ∷ as') h k =
    let named : Names (path_text (a ∷ as')) (a ∷ as') = record { is_path = k; not_root = λ e. cc; text_is = refl } in
    let other : path_text (a ∷ as') ≢ codes "." = λ e. dot_is_none (subst IsPathText e (a ∷ as', named)) in (
      λ t. elim t [ inl x ↦ absurd (other x.0) | inr x ↦ below_from_prefix path (a ∷ as') h k named.not_root x.1.0 x.1.1 ],
      λ b. inr (other, prefix_from_below path (a ∷ as') named.not_root b),
    )

-- ## A prefix with a `/` after it

pub no_prefix_short : (text dir : List ℕ) → length text ≤ length dir → (rest : List ℕ) → text ≡ dir ++ 47 ∷ rest → ⊥
no_prefix_short text dir h rest e = omega (arith, ap length e, length-append dir (47 ∷ rest))

pub no_prefix_other : (text dir : List ℕ) → get_or text (length dir) 0 ≢ 47 → (rest : List ℕ) → text ≡ dir ++ 47 ∷ rest → ⊥
no_prefix_other text dir h rest e = h (ap (λ t. get_or t (length dir) 0) e ∙ get_or_at dir 47 rest 0 (length dir) refl)

pub prefix_with_slash : (text dir : List ℕ) → length dir < length text → get_or text (length dir) 0 ≡ 47 → text ≡ dir ++ drop (length dir) text
    → (rest : List ℕ) × (text ≡ dir ++ 47 ∷ rest)
prefix_with_slash text dir h k e = (
  drop (length dir + 1) text,
  e ∙ ap (λ t. dir ++ t) (drop_more text (length dir) 0 h ∙ ap (λ b. b ∷ drop (length dir + 1) text) k),
)

-- ## A path text is text

too_large : (b : ℕ) → 128 ≤ b → is_atom_byte b ≡ false
too_large b m =
    or_from _ _ (or_from _ _ (or_from _ _ (or_from _ _ (or_from _ _
    (and_right (leb 65 b) (leb b 90) (lt-leb b 90 (omega arith)))
    (and_right (leb 97 b) (leb b 122) (lt-leb b 122 (omega arith))))
    (and_right (leb 48 b) (leb b 57) (lt-leb b 57 (omega arith))))
    (ne_eqb b 46 (λ e. omega arith)))
    (ne_eqb b 95 (λ e. omega arith)))
    (ne_eqb b 45 (λ e. omega arith))

atom_byte_small : (b : ℕ) → IsTrue (is_atom_byte b) → b < 128
atom_byte_small b h = elim (cases_lt b 128) [
  | inl l ↦ l
  | inr m ↦ absurd (false≢true (sym (too_large b m) ∙ h))
]

atom_small : (bs : List ℕ) → AllByRecursion (λ b. IsTrue (is_atom_byte b)) bs → AllByRecursion (λ b. b < 128) bs
atom_small [] h = tt
atom_small (b ∷ bs) h = (atom_byte_small b h.0, atom_small bs h.1)

join_small : (atom : List ℕ) (rest : Atoms) → AllByRecursion IsAtom (atom ∷ rest) → All (λ b. b < 128) (join_with_byte 47 (atom ∷ rest))
join_small atom [] h = All-from_recursion (λ b. b < 128) atom (atom_small atom h.0.bytes)
join_small atom (next ∷ rest) h =
    All-append (λ b. b < 128) atom (47 ∷ join_with_byte 47 (next ∷ rest))
    (All-from_recursion (λ b. b < 128) atom (atom_small atom h.0.bytes))
    (All-cons (λ b. b < 128) 47 (join_with_byte 47 (next ∷ rest)) (lit< tt) (join_small next rest h.1))

pub path_text-is_utf8 : (text : List ℕ) → IsPathText text → IsUtf8 text
path_text-is_utf8 text ([], h) = absurd (h.not_root refl)
path_text-is_utf8 text (a ∷ as', h) =
    subst IsUtf8 (sym h.text_is) (IsUtf8-from_ascii (path_text (a ∷ as')) (IsAscii-from_all (path_text (a ∷ as')) (join_small a as' h.is_path.atoms)))

pub kept_is : (text kept : List ℕ) → kept ≡ text → IsPathText text → IsKept kept × Names text (path_of kept)
kept_is text kept e (path, h) = (
  subst IsKept (sym e) (kept_from_named text path h),
  subst (Names text) (sym (ap path_of e ∙ path_of-named text path h)) h,
)

-- ## The first atom

pub first_atom : (path : Atoms) (atom : List ℕ) → IsPath path → IsAtom atom → IsFirstAtom atom (path_text path) → (rest : Atoms) × (path ≡ atom ∷ rest)
first_atom path atom h a f =
    let alone : IsPath (atom ∷ []) = record { atoms = (a, tt); short = omega (arith, a.short) } in
    elim f [
      | inl e ↦ ([], same_from_text path (atom ∷ []) h alone e)
      | inr e ↦ let below = below_from_prefix path (atom ∷ []) h alone (λ z. cc) e.0 e.1 in (below.0, below.2)
    ]

pub first_text : (path : Atoms) (atom : List ℕ) (rest : Atoms) → path ≡ atom ∷ rest → IsFirstAtom atom (path_text path)
first_text path atom [] e = inl (ap path_text e)
first_text path atom (b ∷ bs) e = inr (join_with_byte 47 (b ∷ bs), ap path_text e)
