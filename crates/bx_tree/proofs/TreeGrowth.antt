-- A file that has no fault after a tree makes a larger tree, and its text is the next part of the bundle.
use Rattle.bx_tree.specs.declared.limits.TheConstants.{MAX_FILE_BYTES}
use Rattle.std.proofs.Common.{inl, inr, ◌≡◌, ◌≢◌, ℕ, ◌<◌, ◌≤◌, ◌+◌, ◌^◌, List, [], ◌∷◌, ◌++◌, length, get_or, take, drop, codes, refl, ap, sym, ◌∙◌, subst, arith, append_assoc}
use Rattle.std.specs.Cmp.Lexicographic.{slice_cmp}
use Rattle.std.specs.declared.cmp.Ordering.{Ordering}
use Rattle.std.specs.declared.cmp.Ordering.TheVariants.{Less, Greater}
use Rattle.std.specs.Fmt.{decimal}
use Rattle.std.specs.List.{AllByRecursion, Contains}
use Rattle.std.specs.List.Sorted.{IsStrictlySortedBy}
use Rattle.std.specs.Ordering.{nat_cmp, ordering_then}
use Rattle.std.proofs.lemmas.Cmp.{tied_itself, nat_cmp_total}
use Rattle.std.specs.Str.Parse.{digits_value}
use Rattle.std.proofs.lemmas.List.{append-nil, append_cancel_left, drop_at, flat_map_more, length-append, length-take-le, take-append-drop, drop_more, get_or_at, map-append}
use Rattle.std.proofs.lemmas.List.Elements.{Contains-push_cases, All-contains, All-from_recursion}
use Rattle.bx_tree.specs.Paths.{Atoms, IsPath, Names, path_cmp, path_text}
use Rattle.bx_tree.specs.Trees.{Files, IsTree, NoneNested, paths_of}
use Rattle.bx_tree.specs.Bundle.{Header, StartsWithHeader, ComesAfterAll, HasNoAncestor, body_text, file_text}
use Rattle.bx_tree.specs.Headers.{StartsWithBytes}
use Rattle.bx_tree.specs.Reading.{Announces, BodyStartsWithFiles}
use Rattle.bx_tree.proofs.PathTexts.{prefix_from_below, path_cmp-is}
use Rattle.bx_tree.proofs.HeaderParts.{decimal-length}
use Rattle.bx_tree.proofs.Lists.{all_push}

-- ## The bytes after a header

pub starts_from_newline : (text : List ℕ) (size : ℕ) → size < length text → get_or text size 0 ≡ 10 → StartsWithBytes size text
starts_from_newline text size l e = (
  take size text,
  drop (size + 1) text,
  length-take-le size text (omega arith),
  sym (take-append-drop size text) ∙ ap (λ u. take size text ++ u) (drop_more text size 0 l ∙ ap (λ b. b ∷ drop (size + 1) text) e)
      ∙ sym (append_assoc (take size text) (codes "\n") (drop (size + 1) text)),
)

pub newline_at : (text : List ℕ) (size : ℕ) → StartsWithBytes size text → get_or text size 0 ≡ 10
newline_at text size (bytes, more, l, e) =
    ap (λ u. get_or u size 0) (e ∙ append_assoc bytes (codes "\n") more) ∙ get_or_at bytes 10 more 0 size l

-- ## A tree with one more file

push_sorted : {X : Type 0} (R : X → X → Ordering) (xs : List X) (y : X) → IsStrictlySortedBy R xs → AllByRecursion (λ x. R x y ≡ Less) xs → IsStrictlySortedBy R (xs ++ y ∷ [])
unfolding IsStrictlySortedBy
push_sorted R [] y s h = (tt, tt)
push_sorted R (x ∷ xs) y s h = (all_push (λ z. R x z ≡ Less) xs y s.0 h.0, push_sorted R xs y s.1 h.1)

-- a property of each file's path holds of each path
pub all_paths : (P : Atoms → Type 0) (fs : Files) → AllByRecursion (λ f. P f.0) fs → AllByRecursion P (paths_of fs)
all_paths P [] h = tt
all_paths P (f ∷ fs) h = (h.0, all_paths P fs h.1)

-- a text is greater than each proper prefix of it
longer_is_greater : (xs : List ℕ) (y : ℕ) (ys : List ℕ) → slice_cmp nat_cmp (xs ++ y ∷ ys) xs ≡ Greater
longer_is_greater [] y ys = refl
longer_is_greater (x ∷ xs) y ys =
    ap (λ o. ordering_then o (slice_cmp nat_cmp (xs ++ y ∷ ys) xs)) (tied_itself nat_cmp_total x) ∙ longer_is_greater xs y ys

less_paths : (p q : Atoms) → IsPath p → IsPath q → slice_cmp nat_cmp (path_text p) (path_text q) ≡ Less → path_cmp p q ≡ Less
less_paths p q h k e = path_cmp-is p q h k ∙ e

-- each path comes before the new one, by the order of paths
each_below : (ps : List Atoms) (p : Atoms) → AllByRecursion IsPath ps → IsPath p → AllByRecursion (λ q. slice_cmp nat_cmp (path_text q) (path_text p) ≡ Less) ps
    → AllByRecursion (λ q. path_cmp q p ≡ Less) ps
each_below [] p h k a = tt
each_below (q ∷ qs) p h k a = (less_paths q p h.0 k a.0, each_below qs p h.1 k a.1)

push_unnested : (ps : List Atoms) (p : Atoms) → AllByRecursion (λ q. q ≢ []) ps → NoneNested ps → p ≢ []
    → AllByRecursion (λ q. slice_cmp nat_cmp (path_text q) (path_text p) ≡ Less) ps
    → AllByRecursion (λ q. (rest : List ℕ) → path_text p ≡ path_text q ++ 47 ∷ rest → ⊥) ps
    → NoneNested (ps ++ p ∷ [])
push_unnested ps p roots apart root above below dir path d f b =
    let not_root = λ (q : Atoms) (c : Contains ps q). All-contains (λ q. q ≢ []) ps q (All-from_recursion (λ q. q ≢ []) ps roots) c in
    elim (Contains-push_cases ps p dir d) [
      | inl d' ↦ elim (Contains-push_cases ps p path f) [
        | inl f' ↦ apart dir path d' f' b
        | inr e ↦
            let prefix = prefix_from_below path dir (not_root dir d') b in
            All-contains (λ q. (rest : List ℕ) → path_text p ≡ path_text q ++ 47 ∷ rest → ⊥) ps dir
            (All-from_recursion (λ q. (rest : List ℕ) → path_text p ≡ path_text q ++ 47 ∷ rest → ⊥) ps below) d' prefix.0 (ap path_text e ∙ prefix.1)
      ]
      | inr e ↦ elim (Contains-push_cases ps p path f) [
        | inl f' ↦
            let prefix = prefix_from_below path dir (subst (λ q. q ≢ []) e root) b in
            let less : slice_cmp nat_cmp (path_text path) (path_text p) ≡ Less =
            All-contains (λ q. slice_cmp nat_cmp (path_text q) (path_text p) ≡ Less) ps path (All-from_recursion (λ q. slice_cmp nat_cmp (path_text q) (path_text p) ≡ Less) ps above) f' in
            let more : slice_cmp nat_cmp (path_text path) (path_text p) ≡ Greater =
            ap (λ t. slice_cmp nat_cmp t (path_text p)) (prefix.1 ∙ ap (λ q. path_text q ++ 47 ∷ prefix.0) (sym e))
            ∙ longer_is_greater (path_text p) 47 prefix.0 in
            cc
        | inr g ↦ b.1 (sym (append_cancel_left dir [] b.0 (append-nil dir ∙ sym e ∙ g ∙ b.2)))
      ]
    ]

-- a file that comes after all, and has none of them as a directory, makes a larger tree
pub grow_tree : (fs : Files) (f : Atoms × List ℕ) (text : List ℕ) → IsTree fs → Names text f.0 → ComesAfterAll fs text → HasNoAncestor fs text → IsTree (fs ++ f ∷ [])
grow_tree fs f text t n above apart =
    let paths : paths_of (fs ++ f ∷ []) ≡ paths_of fs ++ f.0 ∷ [] = map-append (λ (g : Atoms × List ℕ). g.0) fs (f ∷ []) in
    let above' = all_paths (λ q. slice_cmp nat_cmp (path_text q) (path_text f.0) ≡ Less) fs
    (subst (ComesAfterAll fs) n.text_is above) in
    let apart' = all_paths (λ q. (rest : List ℕ) → path_text f.0 ≡ path_text q ++ 47 ∷ rest → ⊥) fs (subst (HasNoAncestor fs) n.text_is apart) in
    record {
      paths = subst (AllByRecursion IsPath) (sym paths) (all_push IsPath (paths_of fs) f.0 t.paths n.is_path);
      no_root = subst (AllByRecursion (λ q. q ≢ [])) (sym paths) (all_push (λ q. q ≢ []) (paths_of fs) f.0 t.no_root n.not_root);
      rising = subst (IsStrictlySortedBy path_cmp) (sym paths)
          (push_sorted path_cmp (paths_of fs) f.0 t.rising (each_below (paths_of fs) f.0 t.paths n.is_path above'));
      unnested = subst NoneNested (sym paths) (push_unnested (paths_of fs) f.0 t.no_root t.unnested n.not_root above' apart');
    }

pub no_files : IsTree []
unfolding IsStrictlySortedBy
no_files = record { paths = tt; no_root = tt; rising = tt; unnested = λ dir path d f b. omega (arith, d.1) }

-- ## The text of one more file

grouped : (x b n m : List ℕ) → x ++ (b ++ n ++ m) ≡ x ++ b ++ n ++ m
grouped x b n m = simp append_assoc

-- a header with what it announces is the text of that file
pub announced_text : (text : List ℕ) (before : Files) (h : Header) (f : Atoms × List ℕ) → StartsWithHeader text h → (a : Announces before h f)
    → text ≡ file_text f ++ a.bytes.0
announced_text text before h f b a =
    let small : digits_value 10 h.digits < 2 ^ 64 = omega (arith, a.in_size) in
    let digits : h.digits ≡ decimal (length f.1) = sym (decimal-length h.digits b.length_is small) ∙ ap decimal (sym a.size) in
    b.text_is
    ∙ ap (λ d. codes "file " ++ d ++ codes " " ++ h.path ++ codes "\n" ++ h.rest) digits
    ∙ ap (λ p. codes "file " ++ decimal (length f.1) ++ codes " " ++ p ++ codes "\n" ++ h.rest) a.names.text_is
    ∙ ap (λ r. codes "file " ++ decimal (length f.1) ++ codes " " ++ path_text f.0 ++ codes "\n" ++ r) a.bytes.1
    ∙ grouped (codes "file " ++ decimal (length f.1) ++ codes " " ++ path_text f.0 ++ codes "\n") f.1 (codes "\n") a.bytes.0

-- the text after it
pub rest_after : (before : Files) (h : Header) (f : Atoms × List ℕ) → (a : Announces before h f) → drop (length f.1 + 1) h.rest ≡ a.bytes.0
rest_after before h f a =
    ap (drop (length f.1 + 1)) a.bytes.1
    ∙ drop_at (f.1 ++ codes "\n") a.bytes.0 (length f.1 + 1) (length-append f.1 (codes "\n"))

pub push_file : (text rest : List ℕ) (before : Files) (h : Header) (f : Atoms × List ℕ) → BodyStartsWithFiles text before rest → StartsWithHeader rest h → Announces before h f
    → BodyStartsWithFiles text (before ++ f ∷ []) (drop (length f.1 + 1) h.rest)
push_file text rest before h f l b a = record {
  tree = grow_tree before f h.path l.tree a.names a.after a.no_ancestor;
  in_size = record {
    count = omega (arith, a.count, length-append before (f ∷ []));
    sizes = all_push (λ g. length g.1 ≤ MAX_FILE_BYTES) before f l.in_size.sizes (omega (arith, a.size, a.in_size));
  };
  text_is = l.text_is ∙ ap (λ r. body_text before ++ r) (announced_text rest before h f b a)
      ∙ sym (append_assoc (body_text before) (file_text f) a.bytes.0)
      ∙ ap (λ t. t ++ a.bytes.0) (flat_map_more file_text [] before f)
      ∙ ap (λ r. body_text (before ++ f ∷ []) ++ r) (sym (rest_after before h f a));
}

-- the text of a file is not empty
pub shorter : (rest : List ℕ) (before : Files) (h : Header) (f : Atoms × List ℕ) → StartsWithHeader rest h → Announces before h f
    → length (drop (length f.1 + 1) h.rest) < length rest
shorter rest before h f b a =
    let some : 0 < length (file_text f) = omega arith in
    omega (arith, some, ap length (rest_after before h f a), ap length (announced_text rest before h f b a), length-append (file_text f) a.bytes.0)
