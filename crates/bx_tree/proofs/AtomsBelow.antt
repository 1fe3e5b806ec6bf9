-- The atoms of a path after a directory, by the bytes of its text.
use Rattle.std.proofs.Common.{append_assoc, ◌≡◌, ◌≢◌, ◌==◌, ℕ, ◌<◌, ◌≤◌, ◌+◌, zero, suc, true, false, List, [], ◌∷◌, ◌++◌, length, get_or, take, drop, codes, Option, Some, None, refl, ap, sym, ◌∙◌, subst, arith}
use Rattle.std.specs.List.{AllByRecursion, slice_split}
use Rattle.std.specs.Option.{option_map_or}
use Rattle.std.proofs.lemmas.Bool.{ne_eqb}
use Rattle.std.proofs.lemmas.List.{append-nil, append_cancel_left, drop_at, drop_more, length-append, take-append-drop, take_all}
use Rattle.std.proofs.lemmas.List.Elements.{All-from_recursion}
use Rattle.std.proofs.lemmas.List.Splits.{slice_split_at, slice_split_none}
use Rattle.bx_tree.specs.Below.{first_atom, is_below, next_atom, strip_dir}
use Rattle.bx_tree.specs.Paths.{Atoms, IsAtom, IsBelow, IsPath, path_text}
use Rattle.bx_tree.proofs.BelowPaths.{strip_dir-append}
use Rattle.bx_tree.proofs.PathTexts.{atoms_from_text, is_slash, prefix_from_below, root_from_text, split-below}
use Rattle.bx_tree.proofs.Lists.{all_back}

-- ## The first part of a text

no_slash : (bs : List ℕ) → AllByRecursion (λ b. b ≢ 47) bs → AllByRecursion (λ b. is_slash b ≡ false) bs
no_slash [] h = tt
no_slash (b ∷ bs) h = (ne_eqb b 47 h.0, no_slash bs h.1)

pub split_whole : (text : List ℕ) → AllByRecursion (λ b. b ≢ 47) text → slice_split is_slash text ≡ text ∷ []
split_whole text h = slice_split_none is_slash text (All-from_recursion (λ b. is_slash b ≡ false) text (no_slash text h))

pub split_first : (text prefix after : List ℕ) → text ≡ prefix ++ 47 ∷ after → AllByRecursion (λ b. b ≢ 47) prefix
    → slice_split is_slash text ≡ prefix ∷ slice_split is_slash after
split_first text prefix after e h =
    ap (slice_split is_slash) e
    ∙ slice_split_at is_slash prefix 47 after (All-from_recursion (λ b. is_slash b ≡ false) prefix (no_slash prefix h)) refl

none_before : (text : List ℕ) (i : ℕ) → ((k : ℕ) → k < i → get_or text k 0 ≡ 47 → ⊥) → AllByRecursion (λ b. b ≢ 47) (take i text)
none_before [] zero h = tt
none_before [] (suc i) h = tt
none_before (b ∷ bs) zero h = tt
none_before (b ∷ bs) (suc i) h = (h 0 (omega arith), none_before bs i (λ k l. h (suc k) (omega (arith, l))))

pub first_before : (text : List ℕ) (i : ℕ) → i < length text → get_or text i 0 ≡ 47 → ((k : ℕ) → k < i → get_or text k 0 ≡ 47 → ⊥)
    → first_atom (slice_split (λ b. b == 47) text) ≡ Some (take i text)
first_before text i l slash none =
    ap first_atom (split_first text (take i text) (drop (i + 1) text)
    (sym (take-append-drop i text) ∙ ap (λ t. take i text ++ t) (drop_more text i 0 l ∙ ap (λ b. b ∷ drop (i + 1) text) slash))
    (none_before text i none))

pub first_whole : (text : List ℕ) (i : ℕ) → length text ≡ i → ((k : ℕ) → k < i → get_or text k 0 ≡ 47 → ⊥)
    → first_atom (slice_split (λ b. b == 47) text) ≡ Some text
first_whole text i end none =
    ap first_atom (split_whole text (subst (AllByRecursion (λ b. b ≢ 47)) (take_all i text (omega (arith, end))) (none_before text i none)))

-- ## What is left after a directory

-- after the root comes the whole path
pub below_root : (path dir : Atoms) → IsPath path → IsPath dir → IsBelow path dir → path_text dir ≡ codes "."
    → (strip_dir dir path ≡ Some (slice_split is_slash (path_text path))) × AllByRecursion IsAtom (slice_split is_slash (path_text path))
below_root path dir h k b e =
    let root : dir ≡ [] = root_from_text dir k e in
    let other : path_text path ≢ codes "." = λ z. b.1 (append_cancel_left dir b.0 [] (sym b.2 ∙ root_from_text path h z ∙ sym root ∙ sym (append-nil dir))) in
    let atoms = atoms_from_text path h other in
    (ap (λ d. strip_dir d path) root ∙ ap Some (sym atoms), subst (AllByRecursion IsAtom) (sym atoms) h.atoms)

-- after another directory comes the rest of the path's text after the directory's text and a `/`
below_other : (path dir : Atoms) (rest : List ℕ) → IsPath path → IsPath dir → dir ≢ [] → IsBelow path dir → path_text path ≡ path_text dir ++ 47 ∷ rest
    → (strip_dir dir path ≡ Some (slice_split is_slash rest)) × AllByRecursion IsAtom (slice_split is_slash rest)
below_other path [] rest h k n b e = absurd (n refl)
below_other path (a ∷ as') rest h k n b e =
    let other : path_text path ≢ codes "." = λ z. not_root path (a ∷ as') b (root_from_text path h z) in
    let whole : path ≡ (a ∷ as') ++ slice_split is_slash rest =
    sym (atoms_from_text path h other) ∙ ap (slice_split is_slash) e ∙ split-below a as' rest k.atoms in (
      ap (strip_dir (a ∷ as')) whole ∙ strip_dir-append (a ∷ as') (slice_split is_slash rest),
      all_back IsAtom (a ∷ as') (slice_split is_slash rest) (subst (AllByRecursion IsAtom) whole h.atoms),
    )
  where
    not_root : (p d : Atoms) → IsBelow p d → p ≡ [] → ⊥
    not_root p d b z = let n : length (d ++ b.0) ≡ 0 = sym (ap length b.2) ∙ ap length z in
        some_length b.0 b.1 (omega (arith, n, length-append d b.0))
      where
        some_length : (xs : Atoms) → xs ≢ [] → length xs ≡ 0 → ⊥
        some_length [] n l = n refl
        some_length (x ∷ xs) n l = omega (arith, l)

pub below_dir : (path dir : Atoms) → IsPath path → IsPath dir → path_text dir ≢ codes "." → IsBelow path dir
    → (length (path_text dir) + 1 ≤ length (path_text path))
    × (strip_dir dir path ≡ Some (slice_split is_slash (drop (length (path_text dir) + 1) (path_text path))))
    × AllByRecursion IsAtom (slice_split is_slash (drop (length (path_text dir) + 1) (path_text path)))
below_dir path dir h k n b =
    let root : dir ≢ [] = λ z. n (ap path_text z) in
    let prefix = prefix_from_below path dir root b in
    let size = length (path_text dir) in
    let left : drop (size + 1) (path_text path) ≡ prefix.0 =
    ap (drop (size + 1)) (prefix.1 ∙ sym (append_assoc (path_text dir) (47 ∷ []) prefix.0))
    ∙ drop_at (path_text dir ++ 47 ∷ []) prefix.0 (size + 1) (length-append (path_text dir) (47 ∷ [])) in
    let known = below_other path dir prefix.0 h k root b prefix.1 in (
      omega (arith, ap length prefix.1, length-append (path_text dir) (47 ∷ prefix.0)),
      known.0 ∙ ap (λ t. Some (slice_split is_slash t)) (sym left),
      subst (λ t. AllByRecursion IsAtom (slice_split is_slash t)) (sym left) known.1,
    )

-- ## What does not lie below a directory

pub none_next : (dir path : Atoms) → is_below path dir ≡ false → next_atom dir path ≡ None
none_next dir path e = by_cases (next_atom dir path) e
  where
    by_cases : (o : Option (List ℕ)) → option_map_or (λ atom. true) o false ≡ false → o ≡ None
    by_cases None e = refl
    by_cases (Some atom) e = cc
