-- Where a file can be made after others were made, or after places were cleared.
use Rattle.std.proofs.Common.{◌==◌, ◌≡◌, ◌≢◌, ℕ, ◌<◌, Bool, true, false, List, [], ◌∷◌, ◌++◌, codes, refl, ap, sym, subst, ◌∙◌, inl, inr, append_assoc, lit<, lit≤, rules, arith}
use Rattle.std.specs.Prelude.{Contains, Some, None, Option, map, filter, not}
use Rattle.std.specs.List.{AllByRecursion}
use Rattle.std.specs.List.Sorted.{IsStrictlySortedBy}
use Rattle.std.specs.declared.cmp.Ordering.TheVariants.{Less, Equal}
use Rattle.std.proofs.lemmas.Bool.{false≢true, not-true}
use Rattle.std.proofs.lemmas.Cmp.{tied_itself}
use Rattle.std.proofs.lemmas.List.{append-nil, get_or-map, length-map, map-append}
use Rattle.std.proofs.lemmas.List.Elements.{All-contains, All-contains_itself, All-filter, All-from_recursion, All-map, All-weaker, Contains-append_cases, Contains-append_left, Contains-append_right, filter_passes}
use Rattle.std.proofs.lemmas.Option.{same_Some}
use Rattle.bx_tree.specs.Orders.{path_cmp_total}
use Rattle.bx_tree.specs.Paths.{Atoms, IsAtom, IsPath, IsPathText, Names, path_cmp, path_text}
use Rattle.bx_tree.specs.Trees.{Files, IsTree, paths_of}
use Rattle.bx_tree.proofs.PathTexts.{below_from_prefix, dot_is_none, same_from_text}
use Rattle.bx_tree.proofs.OneReading.{prefix_sorted}
use Rattle.bundle_folder.specs.Folders.{File, IsFree, Known, Node, Nodes, nodes_of, with_files, without}
use Rattle.bundle_folder.specs.Places.{IsWithin, is_within}
use Rattle.bundle_folder.specs.Unpacking.{AreFree, AreFreeBut, IsMade, start}
use Rattle.bundle_folder.specs.declared.unpacking.Replace.{Replace}
use Rattle.bundle_folder.specs.declared.unpacking.Replace.TheVariants as replaces
use Rattle.bundle_folder.proofs.Within.{along, meet, name_is_top, to_test}

-- ## Members

pub from_map : {X Y : Type 0} (f : X → Y) (xs : List X) (y : Y) → Contains (map f xs) y → (x : X) × Contains xs x × (f x ≡ y)
from_map {X = X} f xs y h =
    All-contains (λ z. (x : X) × Contains xs x × (f x ≡ z)) (map f xs) y
    (All-map (λ z. (x : X) × Contains xs x × (f x ≡ z)) f xs
    (All-weaker (Contains xs) (λ x. (w : X) × Contains xs w × (f w ≡ f x)) (λ x c. (x, c, refl)) xs (All-contains_itself xs)))
    h

pub to_map : {X Y : Type 0} (f : X → Y) (xs : List X) (x : X) → Contains xs x → Contains (map f xs) (f x)
to_map f xs x c = (
  c.0,
  subst (λ n. c.0 < n) (sym (length-map xs f)) c.1,
  get_or-map f xs c.0 x (f x) c.1 ∙ ap f c.2,
)

in_filtered : {X : Type 0} (p : X → Bool) (xs : List X) (x : X) → Contains (filter p xs) x → Contains xs x × (p x ≡ true)
in_filtered p xs x h = (
  All-contains (Contains xs) (filter p xs) x (All-filter p (Contains xs) xs (All-contains_itself xs)) h,
  All-contains (λ y. p y ≡ true) (filter p xs) x (filter_passes p xs) h,
)

-- ## Paths of a tree

pub tree_path : (files : Files) (path : Atoms) → IsTree files → Contains (paths_of files) path → IsPath path × (path ≢ [])
tree_path files path t c = (
  All-contains IsPath (paths_of files) path (All-from_recursion IsPath (paths_of files) t.paths) c,
  All-contains (λ p. p ≢ []) (paths_of files) path (All-from_recursion (λ p. p ≢ []) (paths_of files) t.no_root) c,
)

pub named : (path : Atoms) → IsPath path → path ≢ [] → Names (path_text path) path
named path h n = record { is_path = h; not_root = n; text_is = refl }

pub no_root_text : (path : Atoms) → IsPath path → path ≢ [] → path_text path ≢ codes "."
no_root_text path h n e = dot_is_none (subst IsPathText e (path, named path h n))

atom_out : IsAtom (codes "out")
atom_out = record { some = lit< tt; short = lit≤ tt; bytes = search rules; not_dot = λ e. cc; not_dots = λ e. cc }

atom_report : IsAtom (codes "report.txt")
atom_report = record { some = lit< tt; short = lit≤ tt; bytes = search rules; not_dot = λ e. cc; not_dots = λ e. cc }

pub out_is_path : IsPathText (codes "out")
out_is_path = (
  codes "out" ∷ [],
  record { is_path = record { atoms = (atom_out, tt); short = lit≤ tt }; not_root = λ e. cc; text_is = refl },
)

pub report_is_path : IsPathText (codes "report.txt")
report_is_path = (
  codes "report.txt" ∷ [],
  record { is_path = record { atoms = (atom_report, tt); short = lit≤ tt }; not_root = λ e. cc; text_is = refl },
)

-- ## After places were cleared

-- what is left was there
pub left_nodes : (top : List ℕ) (nodes : Nodes) (n : List ℕ × Node) → Contains (without top nodes) n → Contains nodes n
left_nodes top nodes n h = (in_filtered (λ (m : List ℕ × Node). not (is_within m.0 top)) nodes n h).0

pub left_of_free : (top : List ℕ) (nodes : Nodes) (place : List ℕ) → IsFree nodes place → IsFree (without top nodes) place
left_of_free top nodes place f = record {
  no_root = f.no_root;
  apart = λ other node h. f.apart other node (in_filtered (λ (n : List ℕ × Node). not (is_within n.0 top)) nodes (other, node) h).0;
}

-- what lies outside a name at the top is apart from what lies within it
apart_from : (top place other : List ℕ) → AllByRecursion (λ b. (b == 47) ≡ false) top → IsWithin place top
    → is_within other top ≡ false → (¬ IsWithin place other) × (¬ IsWithin other place)
apart_from top place other plain h outside = (
  λ k. elim (meet place top other h k) [
    | inl above ↦ false≢true (sym outside ∙ to_test other top (inl (sym (name_is_top top other plain above))))
    | inr below ↦ false≢true (sym outside ∙ to_test other top below)
  ],
  λ k. false≢true (sym outside ∙ to_test other top (along other place top k h)),
)

cleared_is_free : (nodes : Nodes) (place : List ℕ) → place ≢ codes "." → IsMade place
    → IsFree (without (codes "report.txt") (without (codes "out") nodes)) place
cleared_is_free nodes place n made = record {
  no_root = n;
  apart = λ other node h.
      let outer = in_filtered (λ (n : List ℕ × Node). not (is_within n.0 (codes "report.txt"))) (without (codes "out") nodes) (other, node) h in
      let inner = in_filtered (λ (n : List ℕ × Node). not (is_within n.0 (codes "out"))) nodes (other, node) outer.0 in
      elim made [
        | inl m ↦ apart_from (codes "out") place other (refl, (refl, (refl, tt))) m (not-true (is_within other (codes "out")) inner.1)
        | inr m ↦ apart_from (codes "report.txt") place other
            (refl, (refl, (refl, (refl, (refl, (refl, (refl, (refl, (refl, (refl, tt)))))))))) m (not-true (is_within other (codes "report.txt")) outer.1)
      ];
}

no_nodes : (nodes : Nodes) → None ≡ Some nodes → ⊥
no_nodes nodes e = cc

not_made : replaces.Nothing ≡ replaces.Made → ⊥
not_made e = cc

-- what was found free, and what is cleared, is free when the first file is made
pub free_at_start : (replace : Replace) (holds : Option Nodes) (files : Files) → IsTree files
    → Known holds (λ nodes. AreFreeBut replace nodes files) → Known (start replace holds) (λ nodes. AreFree nodes files)
free_at_start replaces.Nothing None files t k nodes e path c = absurd (no_nodes nodes e)
free_at_start replaces.Made None files t k nodes e path c = absurd (no_nodes nodes e)
free_at_start replaces.Nothing (Some before) files t k nodes e path c =
    let same = same_Some before nodes e in
    elim (k before refl path c) [
      | inl m ↦ absurd (not_made m.0)
      | inr f ↦ subst (λ n. IsFree n (path_text path)) same f
    ]
free_at_start replaces.Made (Some before) files t k nodes e path c =
    let same = same_Some (without (codes "report.txt") (without (codes "out") before)) nodes e in
    let is = tree_path files path t c in
    subst (λ n. IsFree n (path_text path)) same (elim (k before refl path c) [
      | inl m ↦ cleared_is_free before (path_text path) (no_root_text path is.0 is.1) m.1
      | inr f ↦ left_of_free (codes "report.txt") (without (codes "out") before) (path_text path) (left_of_free (codes "out") before (path_text path) f)
    ])

-- ## After files were made

-- paths of a tree whose texts lie within one another are one path
pub within_in_tree : (files : Files) (p q : Atoms) → IsTree files → Contains (paths_of files) p → Contains (paths_of files) q
    → IsWithin (path_text p) (path_text q) → p ≡ q
within_in_tree files p q t c d h =
    let one = tree_path files p t c in
    let other = tree_path files q t d in
    elim h [
      | inl e ↦ same_from_text p q one.0 other.0 e
      | inr below ↦ absurd (t.unnested q p d c (below_from_prefix p q one.0 other.0 other.1 below.0 below.1))
    ]

contains_middle : {X : Type 0} (before : List X) (x : X) (after : List X) → Contains (before ++ x ∷ after) x
contains_middle before x after = Contains-append_right before (x ∷ after) x (0, omega arith, refl)

-- a file before another in a tree has another path
differs_from_later : (before : Files) (file g : Atoms × List ℕ) (after : Files) → IsTree (before ++ file ∷ after)
    → Contains before g → g.0 ≡ file.0 → ⊥
differs_from_later before file g after t c e =
    let split : paths_of (before ++ file ∷ after) ≡ paths_of before ++ file.0 ∷ paths_of after =
    map-append (λ (f : Atoms × List ℕ). f.0) before (file ∷ after) in
    let below = prefix_sorted path_cmp (paths_of before) file.0 (paths_of after) (subst (IsStrictlySortedBy path_cmp) split t.rising) in
    let less = All-contains (λ y. path_cmp y file.0 ≡ Less) (paths_of before) g.0
    (All-from_recursion (λ y. path_cmp y file.0 ≡ Less) (paths_of before) below)
    (to_map (λ (f : Atoms × List ℕ). f.0) before g c) in
    let tied = tied_itself path_cmp_total file.0 in
    let never : Equal ≡ Less = sym tied ∙ subst (λ p. path_cmp p file.0 ≡ Less) e less in
    cc

-- a file of a tree can still be made after those before it
pub free_after : (nodes : Nodes) (before : Files) (file : Atoms × List ℕ) (after : Files) → IsTree (before ++ file ∷ after)
    → IsFree nodes (path_text file.0) → IsFree (nodes ++ nodes_of before) (path_text file.0)
free_after nodes before file after t f = record {
  no_root = f.no_root;
  apart = λ other node h. elim (Contains-append_cases nodes (nodes_of before) (other, node) h) [
    | inl c ↦ f.apart other node c
    | inr c ↦
        let made = from_map (λ (g : Atoms × List ℕ). (path_text g.0, File g.1)) before (other, node) c in
        let place : path_text made.0.0 ≡ other = ap (λ (p : List ℕ × Node). p.0) made.2 in
        let files = before ++ file ∷ after in
        let here = to_map (λ (g : Atoms × List ℕ). g.0) files file (contains_middle before file after) in
        let there = to_map (λ (g : Atoms × List ℕ). g.0) files made.0 (Contains-append_left before (file ∷ after) made.0 made.1) in
        let differs = differs_from_later before file made.0 after t made.1 in (
          λ k. differs (sym (within_in_tree files file.0 made.0.0 t here there (subst (λ x. IsWithin (path_text file.0) x) (sym place) k))),
          λ k. differs (within_in_tree files made.0.0 file.0 t there here (subst (λ x. IsWithin x (path_text file.0)) (sym place) k)),
        )
  ];
}

-- ## What was made so far

-- one more file
pub added : (holds : Option Nodes) (before : Files) (file : Atoms × List ℕ)
    → with_files (with_files holds before) (file ∷ []) ≡ with_files holds (before ++ file ∷ [])
added None before file = refl
added (Some nodes) before file =
    ap Some (append_assoc nodes (nodes_of before) (nodes_of (file ∷ []))
    ∙ ap (λ more. nodes ++ more) (sym (map-append (λ (g : Atoms × List ℕ). (path_text g.0, File g.1)) before (file ∷ []))))

-- no file
pub with_none : (holds : Option Nodes) → with_files holds [] ≡ holds
with_none None = refl
with_none (Some nodes) = ap Some (append-nil nodes)
