-- A text is the bundle of at most one tree, has at most one first fault, and never both.
use Rattle.bx_tree.specs.declared.limits.TheConstants.{MAX_FILE_BYTES}
use Rattle.std.proofs.Common.{inl, inr, ◌⊎◌, ◌≡◌, ◌≢◌, ℕ, ◌<◌, ◌≤◌, ◌^◌, List, [], ◌∷◌, ◌++◌, length, get_or, take, drop, codes, refl, ap, sym, ◌∙◌, subst, arith, append_assoc, lit<, IsTrue}
use Rattle.std.specs.declared.cmp.Ordering.{Ordering}
use Rattle.std.specs.declared.cmp.Ordering.TheVariants.{Less}
use Rattle.std.specs.Fmt.{decimal}
use Rattle.std.specs.List.{AllByRecursion, Contains, join_with_byte}
use Rattle.std.specs.List.Sorted.{IsStrictlySortedBy}
use Rattle.std.proofs.lemmas.Bool.{cases_eq, false≢true}
use Rattle.std.proofs.lemmas.Fmt.{decimal_is_IsNumeral, decimal_nonempty, decimal_injective, decimal_digit, first_decimal}
use Rattle.std.proofs.lemmas.List.{append-nil, append_cancel_left, take_at, drop_at, get_or_at, length-append}
use Rattle.std.proofs.lemmas.List.Elements.{recursion_from_All, Contains-append_left, Contains-get_or}
use Rattle.bx_tree.specs.declared.bundle.BundleFault.{BundleFault}
use Rattle.bx_tree.specs.Paths.{Atoms, IsAtom, IsBelow, IsPath, is_atom_byte, path_cmp, path_text}
use Rattle.bx_tree.specs.Trees.{Files, IsTree, NoneNested, paths_of}
use Rattle.bx_tree.specs.Bundle.{Header, StartsWithHeader, Faults, HeaderFault, ComesAfterAll, HasNoAncestor, IsBundle, StartsWithFiles, IsInSize, IsLength, RestFault, Unless, body_text, file_text}
use Rattle.bx_tree.proofs.PathTexts.{below_from_prefix, same_from_text}
use Rattle.bx_tree.proofs.FileSearch.{less_texts}
use Rattle.bx_tree.proofs.HeaderParts.{at_split, one_header}
use Rattle.bx_tree.proofs.Lists.{all_append, all_front}

-- ## The header of a file

-- a file that a bundle may have
record IsHeld (f : Atoms × List ℕ) : Type 0 where
  is_path : IsPath f.0
  not_root : f.0 ≢ []
  size : length f.1 ≤ MAX_FILE_BYTES

header_for : Atoms × List ℕ → List ℕ → Header
header_for f tail = record { digits = decimal (length f.1); path = path_text f.0; rest = f.1 ++ codes "\n" ++ tail }

is_length : (n : ℕ) → n < 2 ^ 64 → IsLength (decimal n)
is_length n small = record {
  some = λ e. omega (arith, decimal_nonempty n small, ap length e);
  digits = (decimal_is_IsNumeral n small).0.1;
  no_zero = λ more e. elim (cases_eq n 0) [
    | inl z ↦ let alone : 48 ∷ [] ≡ 48 ∷ more = sym (ap decimal z ∙ decimal_digit 0 (lit< tt)) ∙ e in sym cc
    | inr s ↦ let first = first_decimal n (omega (arith, s)) small in absurd (omega (arith, first, ap (λ t. get_or t 0 0) e))
  ];
}

no_line_byte : (b : ℕ) → IsTrue (is_atom_byte b) → b ≢ 10
no_line_byte b h e = false≢true (subst (λ x. IsTrue (is_atom_byte x)) e h)

no_line : (bs : List ℕ) → AllByRecursion (λ b. IsTrue (is_atom_byte b)) bs → AllByRecursion (λ b. b ≢ 10) bs
no_line [] h = tt
no_line (b ∷ bs) h = (no_line_byte b h.0, no_line bs h.1)

join_line : (a : List ℕ) (as' : Atoms) → AllByRecursion IsAtom (a ∷ as') → AllByRecursion (λ b. b ≢ 10) (join_with_byte 47 (a ∷ as'))
join_line a [] h = no_line a h.0.bytes
join_line a (b ∷ bs) h =
    all_append (λ x. x ≢ 10) a (47 ∷ join_with_byte 47 (b ∷ bs)) (no_line a h.0.bytes) ((λ e. cc), join_line b bs h.1)

path_line : (p : Atoms) → IsPath p → p ≢ [] → AllByRecursion (λ b. b ≢ 10) (path_text p)
path_line [] h n = absurd (n refl)
path_line (a ∷ as') h n = join_line a as' h.atoms

ungrouped : (x b n m : List ℕ) → x ++ b ++ n ++ m ≡ x ++ (b ++ n ++ m)
ungrouped x b n m = simp append_assoc

-- the text of a file starts with its header
begins_file : (f : Atoms × List ℕ) (tail : List ℕ) → IsHeld f → StartsWithHeader (file_text f ++ tail) (header_for f tail)
unfolding header_for
begins_file f tail h = record {
  length_is = is_length (length f.1) (omega (arith, h.size));
  one_line = path_line f.0 h.is_path h.not_root;
  text_is = ungrouped (codes "file " ++ decimal (length f.1) ++ codes " " ++ path_text f.0 ++ codes "\n") f.1 (codes "\n") tail;
}

-- equal texts that start with equally many bytes and a newline have equal bytes and rests
same_bytes : (a b x y : List ℕ) → length a ≡ length b → a ++ codes "\n" ++ x ≡ b ++ codes "\n" ++ y → (a ≡ b) × (x ≡ y)
same_bytes a b x y l e =
    let e' : a ++ 10 ∷ x ≡ b ++ 10 ∷ y = sym (append_assoc a (codes "\n") x) ∙ e ∙ append_assoc b (codes "\n") y in
    let prefixes : a ≡ b = sym (take_at a (10 ∷ x) (length b) l) ∙ ap (take (length b)) e' ∙ take_at b (10 ∷ y) (length b) refl in
    let suffixes : 10 ∷ x ≡ 10 ∷ y = sym (drop_at a (10 ∷ x) (length b) l) ∙ ap (drop (length b)) e' ∙ drop_at b (10 ∷ y) (length b) refl in
    (prefixes, cc)

-- a text starts with the text of at most one file
same_file : (f g : Atoms × List ℕ) (x y : List ℕ) → IsHeld f → IsHeld g → file_text f ++ x ≡ file_text g ++ y → (f ≡ g) × (x ≡ y)
unfolding header_for
same_file f g x y h k e =
    let both = one_header (file_text f ++ x) (header_for f x) (header_for g y) (begins_file f x h)
    (subst (λ t. StartsWithHeader t (header_for g y)) (sym e) (begins_file g y k)) in
    let lengths = decimal_injective (length f.1) (length g.1) (omega (arith, h.size)) (omega (arith, k.size)) both.0 in
    let paths = same_from_text f.0 g.0 h.is_path k.is_path both.1 in
    let rests = same_bytes f.1 g.1 x y lengths both.2 in
    ((λ i. (paths i, rests.0 i)), rests.1)

-- ## Two lists of files that one text starts with

-- one list is a prefix of the other
Agree : Files → Files → List ℕ → List ℕ → Type 0
Agree ss ts x y =
    ((ss ≡ ts) × (x ≡ y))
    ⊎ (((g : Atoms × List ℕ) × (more : Files) × (ts ≡ ss ++ g ∷ more) × (x ≡ file_text g ++ (body_text more ++ y)))
    ⊎ ((g : Atoms × List ℕ) × (more : Files) × (ss ≡ ts ++ g ∷ more) × (y ≡ file_text g ++ (body_text more ++ x))))

more_agree : (f : Atoms × List ℕ) (ss ts : Files) (x y : List ℕ) → Agree ss ts x y → Agree (f ∷ ss) (f ∷ ts) x y
unfolding Agree
more_agree f ss ts x y a = elim a [
  | inl e ↦ inl (ap (λ l. f ∷ l) e.0, e.1)
  | inr b ↦ elim b [
    | inl e ↦ inr (inl (e.0, e.1, ap (λ l. f ∷ l) e.2, e.3))
    | inr e ↦ inr (inr (e.0, e.1, ap (λ l. f ∷ l) e.2, e.3))
  ]
]

agree : (ss ts : Files) (x y : List ℕ) → AllByRecursion IsHeld ss → AllByRecursion IsHeld ts → body_text ss ++ x ≡ body_text ts ++ y → Agree ss ts x y
unfolding Agree
agree [] [] x y h k e = inl (refl, e)
agree [] (g ∷ gs) x y h k e = inr (inl (g, gs, refl, e ∙ append_assoc (file_text g) (body_text gs) y))
agree (f ∷ fs) [] x y h k e = inr (inr (f, fs, refl, sym e ∙ append_assoc (file_text f) (body_text fs) x))
agree (f ∷ fs) (g ∷ gs) x y h k e =
    let heads = same_file f g (body_text fs ++ x) (body_text gs ++ y) h.0 k.0
    (sym (append_assoc (file_text f) (body_text fs) x) ∙ e ∙ append_assoc (file_text g) (body_text gs) y) in
    subst (λ q. Agree (f ∷ fs) (q ∷ gs) x y) heads.0 (more_agree f fs gs x y (agree fs gs x y h.1 k.1 heads.1))

held : (fs : Files) → AllByRecursion IsPath (paths_of fs) → AllByRecursion (λ p. p ≢ []) (paths_of fs) → AllByRecursion (λ f. length f.1 ≤ MAX_FILE_BYTES) fs → AllByRecursion IsHeld fs
held [] p r s = tt
held (f ∷ fs) p r s = (record { is_path = p.0; not_root = r.0; size = s.0 }, held fs p.1 r.1 s.1)

no_end : (g : Atoms × List ℕ) (tail more : List ℕ) → codes "end\n" ++ more ≡ file_text g ++ tail → ⊥
no_end g tail more e = let first : ◌≡◌ {A = ℕ} 101 102 = ap (λ t. get_or t 0 0) e in omega arith

-- ## The first condition that fails

unless_one : {C N M : Type 0} {fault a b : BundleFault} → Unless C fault a N → Unless C fault b M → (N → M → a ≡ b) → a ≡ b
unless_one u v next = elim u [
  | inl x ↦ elim v [ inl y ↦ x.1 ∙ sym y.1 | inr y ↦ absurd (x.0 y.0) ]
  | inr x ↦ elim v [ inl y ↦ absurd (y.0 x.0) | inr y ↦ next x.1 y.1 ]
]

unless_none : {C N : Type 0} {fault a : BundleFault} → Unless C fault a N → C → (N → ⊥) → ⊥
unless_none u c next = elim u [ inl x ↦ x.0 c | inr x ↦ next x.1 ]

header_one : (before : Files) (h : Header) (a b : BundleFault) → HeaderFault before h a → HeaderFault before h b → a ≡ b
header_one before h a b u v =
    unless_one u v (λ u v. unless_one u v (λ u v. unless_one u v (λ u v. unless_one u v (λ u v. unless_one u v (λ u v. unless_one u v (λ n m. absurd n))))))

same_header : (h k : Header) → (h.digits ≡ k.digits) × (h.path ≡ k.path) × (h.rest ≡ k.rest) → h ≡ k
same_header h k e = λ i. record { digits = e.0 i; path = e.1 i; rest = e.2 i }

end_is_no_header : (more : List ℕ) (h : Header) → StartsWithHeader (codes "end\n" ++ more) h → ⊥
end_is_no_header more h b = let first : ◌≡◌ {A = ℕ} 101 102 = ap (λ t. get_or t 0 0) b.text_is in omega arith

-- the text after the files has at most one first fault
rest_one : (before : Files) (text : List ℕ) (a b : BundleFault) → RestFault before text a → RestFault before text b → a ≡ b
rest_one before text a b u v = elim u [
  | inl x ↦ elim v [
    | inl y ↦ x.2 ∙ sym y.2
    | inr w ↦ elim w [ inl y ↦ absurd (x.0 y.0 y.2) | inr y ↦ absurd (x.1 y.0 y.1) ]
  ]
  | inr r ↦ elim r [
    | inl x ↦ elim v [
      | inl y ↦ absurd (y.0 x.0 x.2)
      | inr w ↦ elim w [ inl y ↦ x.3 ∙ sym y.3 | inr y ↦ absurd (end_is_no_header x.0 y.0 (subst (λ t. StartsWithHeader t y.0) x.2 y.1)) ]
    ]
    | inr x ↦ elim v [
      | inl y ↦ absurd (y.1 x.0 x.1)
      | inr w ↦ elim w [
        | inl y ↦ absurd (end_is_no_header y.0 x.0 (subst (λ t. StartsWithHeader t x.0) y.2 x.1))
        | inr y ↦
            let same = same_header y.0 x.0 (one_header text y.0 x.0 y.1 x.1) in
            header_one before x.0 a b x.2 (subst (λ h. HeaderFault before h b) same y.2)
      ]
    ]
  ]
]

-- an end with nothing after it has no fault
end_has_none : (before : Files) (a : BundleFault) → RestFault before (codes "end\n") a → ⊥
end_has_none before a u = elim u [
  | inl x ↦ x.0 [] (sym (append-nil (codes "end\n")))
  | inr r ↦ elim r [
    | inl x ↦ x.1 (append_cancel_left (codes "end\n") x.0 [] (sym x.2 ∙ sym (append-nil (codes "end\n"))))
    | inr x ↦ end_is_no_header [] x.0 (subst (λ t. StartsWithHeader t x.0) (sym (append-nil (codes "end\n"))) x.1)
  ]
]

-- ## More files

Contains-middle : {X : Type 0} (xs : List X) (y : X) (ys : List X) → Contains (xs ++ y ∷ ys) y
Contains-middle xs y ys =
    (length xs, omega (arith, length-append xs (y ∷ ys)), get_or_at xs y ys y (length xs) refl)

pub prefix_sorted : {X : Type 0} (R : X → X → Ordering) (xs : List X) (y : X) (ys : List X) → IsStrictlySortedBy R (xs ++ y ∷ ys) → AllByRecursion (λ x. R x y ≡ Less) xs
unfolding IsStrictlySortedBy
prefix_sorted R [] y ys h = tt
prefix_sorted R (x ∷ xs) y ys h = (at_split (λ z. R x z ≡ Less) xs y ys h.0, prefix_sorted R xs y ys h.1)

paths_on : (fs : Files) (g : Atoms × List ℕ) (more : Files) → paths_of (fs ++ g ∷ more) ≡ paths_of fs ++ g.0 ∷ paths_of more
paths_on [] g more = refl
paths_on (f ∷ fs) g more = ap (λ ps. f.0 ∷ ps) (paths_on fs g more)

after_texts : (fs : Files) (p : Atoms) → AllByRecursion IsPath (paths_of fs) → IsPath p → AllByRecursion (λ q. path_cmp q p ≡ Less) (paths_of fs) → ComesAfterAll fs (path_text p)
after_texts [] p h k a = tt
after_texts (f ∷ fs) p h k a = (less_texts f.0 p h.0 k a.0, after_texts fs p h.1 k a.1)

no_ancestor_texts : (fs : Files) (p : Atoms) → AllByRecursion IsPath (paths_of fs) → IsPath p → AllByRecursion (λ q. q ≢ []) (paths_of fs)
    → AllByRecursion (λ q. IsBelow p q → ⊥) (paths_of fs) → HasNoAncestor fs (path_text p)
no_ancestor_texts [] p h k r a = tt
no_ancestor_texts (f ∷ fs) p h k r a =
    ((λ rest e. a.0 (below_from_prefix p f.0 k h.0 r.0 rest e)), no_ancestor_texts fs p h.1 k r.1 a.1)

none_over : (ps : List Atoms) (p : Atoms) (qs : List Atoms) → NoneNested (ps ++ p ∷ qs) → AllByRecursion (λ q. IsBelow p q → ⊥) ps
none_over ps p qs n =
    recursion_from_All (λ q. IsBelow p q → ⊥) ps (λ k d l.
    n (get_or ps k d) p (Contains-append_left ps (p ∷ qs) (get_or ps k d) (Contains-get_or ps k d l)) (Contains-middle ps p qs))

-- the conditions on a file that follows others in a tree
pub record Follows (before : Files) (path : Atoms) : Type 0 where
  pub is_path : IsPath path
  pub not_root : path ≢ []
  pub after : ComesAfterAll before (path_text path)
  pub no_ancestor : HasNoAncestor before (path_text path)

pub follows : (before : Files) (g : Atoms × List ℕ) (more : Files) → IsTree (before ++ g ∷ more) → Follows before g.0
follows before g more t =
    let paths = paths_on before g more in
    let all_paths = subst (AllByRecursion IsPath) paths t.paths in
    let roots = subst (AllByRecursion (λ q. q ≢ [])) paths t.no_root in
    let is_path = at_split IsPath (paths_of before) g.0 (paths_of more) all_paths in
    let before_paths = all_front IsPath (paths_of before) (g.0 ∷ paths_of more) all_paths in
    let before_roots = all_front (λ q. q ≢ []) (paths_of before) (g.0 ∷ paths_of more) roots in
    record {
      is_path = is_path;
      not_root = at_split (λ q. q ≢ []) (paths_of before) g.0 (paths_of more) roots;
      after = after_texts before g.0 before_paths is_path
          (prefix_sorted path_cmp (paths_of before) g.0 (paths_of more) (subst (IsStrictlySortedBy path_cmp) paths t.rising));
      no_ancestor = no_ancestor_texts before g.0 before_paths is_path before_roots (none_over (paths_of before) g.0 (paths_of more) (subst NoneNested paths t.unnested));
    }

-- a text that continues with a file that may follow has no fault there
goes_on : (before : Files) (g : Atoms × List ℕ) (more : Files) (tail : List ℕ) (a : BundleFault) → IsTree (before ++ g ∷ more) → IsInSize (before ++ g ∷ more)
    → RestFault before (file_text g ++ tail) a → ⊥
unfolding header_for
goes_on before g more tail a t s u =
    let f = follows before g more t in
    let size = at_split (λ f. length f.1 ≤ MAX_FILE_BYTES) before g more s.sizes in
    let here : IsHeld g = record { is_path = f.is_path; not_root = f.not_root; size = size } in
    let begins = begins_file g tail here in
    let value = (decimal_is_IsNumeral (length g.1) (omega (arith, size))).1 in
    elim u [
      | inl x ↦ x.1 (header_for g tail) begins
      | inr r ↦ elim r [
        | inl x ↦ no_end g tail x.0 (sym x.2)
        | inr x ↦
            let same = same_header x.0 (header_for g tail) (one_header (file_text g ++ tail) x.0 (header_for g tail) x.1 begins) in
            unless_none (subst (λ h. HeaderFault before h a) same x.2) (omega (arith, value, size))
            (λ u. unless_none u (omega (arith, s.count, length-append before (g ∷ more)))
            (λ u. unless_none u (g.0, record { is_path = f.is_path; not_root = f.not_root; text_is = refl })
            (λ u. unless_none u f.after
            (λ u. unless_none u f.no_ancestor
            (λ u. unless_none u (g.1, tail, sym value, refl) (λ n. n))))))
      ]
    ]

-- ## The laws

held_prefix : (text : List ℕ) (fs : Files) (rest : List ℕ) → StartsWithFiles text fs rest → AllByRecursion IsHeld fs
held_prefix text fs rest f = held fs f.tree.paths f.tree.no_root f.in_size.sizes

held_bundle : (text : List ℕ) (fs : Files) → IsBundle text fs → AllByRecursion IsHeld fs
held_bundle text fs b = held fs b.tree.paths b.tree.no_root b.in_size.sizes

after_line : (xs ys x y : List ℕ) → codes "bundle 1\n" ++ xs ++ x ≡ codes "bundle 1\n" ++ ys ++ y → xs ++ x ≡ ys ++ y
after_line xs ys x y e =
    append_cancel_left (codes "bundle 1\n") (xs ++ x) (ys ++ y)
    (sym (append_assoc (codes "bundle 1\n") xs x) ∙ e ∙ append_assoc (codes "bundle 1\n") ys y)

-- a text is the bundle of at most one tree
pub one_tree : (text : List ℕ) (s t : Files) → IsBundle text s → IsBundle text t → s ≡ t
unfolding Agree
one_tree text s t b c =
    elim (agree s t (codes "end\n") (codes "end\n") (held_bundle text s b) (held_bundle text t c)
    (after_line (body_text s) (body_text t) (codes "end\n") (codes "end\n") (sym b.text_is ∙ c.text_is))) [
      | inl e ↦ e.0
      | inr r ↦ elim r [
        | inl e ↦ absurd (no_end e.0 (body_text e.1 ++ codes "end\n") [] (append-nil (codes "end\n") ∙ e.3))
        | inr e ↦ absurd (no_end e.0 (body_text e.1 ++ codes "end\n") [] (append-nil (codes "end\n") ∙ e.3))
      ]
    ]

first_line : (text : List ℕ) (fs : Files) (end : List ℕ) → text ≡ codes "bundle 1\n" ++ body_text fs ++ end → (rest : List ℕ) × (text ≡ codes "bundle 1\n" ++ rest)
first_line text fs end e = (body_text fs ++ end, e ∙ append_assoc (codes "bundle 1\n") (body_text fs) end)

-- a bundle within the limits has no fault
pub no_fault : (text : List ℕ) (fs : Files) (a : BundleFault) → IsBundle text fs → Faults text a → ⊥
unfolding Agree
no_fault text fs a b u =
    unless_none u b.whole (λ u. unless_none u (first_line text fs (codes "end\n") b.text_is) (λ f.
    elim (agree f.0 fs f.1 (codes "end\n") (held_prefix text f.0 f.1 f.2) (held_bundle text fs b)
    (after_line (body_text f.0) (body_text fs) f.1 (codes "end\n") (sym f.2.text_is ∙ b.text_is))) [
      | inl e ↦ end_has_none f.0 a (subst (λ r. RestFault f.0 r a) e.1 f.3)
      | inr r ↦ elim r [
        | inl e ↦ goes_on f.0 e.0 e.1 (body_text e.1 ++ codes "end\n") a (subst IsTree e.2 b.tree) (subst IsInSize e.2 b.in_size) (subst (λ r. RestFault f.0 r a) e.3 f.3)
        | inr e ↦ no_end e.0 (body_text e.1 ++ f.1) [] (append-nil (codes "end\n") ∙ e.3)
      ]
    ]))

-- a text has at most one first fault
pub one_fault : (text : List ℕ) (a b : BundleFault) → Faults text a → Faults text b → a ≡ b
unfolding Agree
one_fault text a b u v =
    unless_one u v (λ u v. unless_one u v (λ f g.
    elim (agree f.0 g.0 f.1 g.1 (held_prefix text f.0 f.1 f.2) (held_prefix text g.0 g.1 g.2)
    (after_line (body_text f.0) (body_text g.0) f.1 g.1 (sym f.2.text_is ∙ g.2.text_is))) [
      | inl e ↦ rest_one g.0 g.1 a b (subst (λ r. RestFault g.0 r a) e.1 (subst (λ fs. RestFault fs f.1 a) e.0 f.3)) g.3
      | inr r ↦ elim r [
        | inl e ↦ absurd (goes_on f.0 e.0 e.1 (body_text e.1 ++ g.1) a (subst IsTree e.2 g.2.tree) (subst IsInSize e.2 g.2.in_size) (subst (λ r. RestFault f.0 r a) e.3 f.3))
        | inr e ↦ absurd (goes_on g.0 e.0 e.1 (body_text e.1 ++ f.1) b (subst IsTree e.2 f.2.tree) (subst IsInSize e.2 f.2.in_size) (subst (λ r. RestFault g.0 r b) e.3 g.3))
      ]
    ]))
