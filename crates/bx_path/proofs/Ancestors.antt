-- The directories of a path, from the one that it lies in up to the root.
use Rattle.std.proofs.Common.{◌≡◌, ◌≢◌, ℕ, ◌+◌, ◌<◌, ◌≤◌, zero, suc, Bool, true, false, ◌||◌, ◌&&◌, cond, List, [], ◌∷◌, ◌++◌, length, take, get_or, codes, Option, Some, None, refl, ap, sym, ◌∙◌, arith, length-append}
use Rattle.std.specs.BTreeMap.{is_at}
use Rattle.std.specs.List.{join_with_byte, list_any, slice_split}
use Rattle.std.specs.Option.{option_and_then, option_map_or}
use Rattle.std.specs.Str.{bytes_eq}
use Rattle.std.proofs.Math.Seq.{take-append_seam}
use Rattle.std.proofs.lemmas.Bool.{le-leb}
use Rattle.std.proofs.lemmas.Cmp.{nat_list_eq_equiv}
use Rattle.std.proofs.lemmas.List.{length-take, take_more}
use Rattle.bx_tree.specs.declared.limits.TheConstants.{MAX_PATH_BYTES}
use Rattle.bx_tree.specs.Orders.{path_cmp_matches}
use Rattle.bx_tree.specs.Paths.{Atoms, IsPath, Names, path_cmp, path_text, same_path}
use Rattle.bx_tree.specs.Below.{first_atom, is_at_or_below, is_below, strip_dir}
use Rattle.bx_tree.proofs.AtomsBelow.{split_whole}
use Rattle.bx_tree.proofs.Lists.{any_last}
use Rattle.bx_tree.proofs.PathTexts.{atoms_from_text, is_slash, split-below}
use Rattle.bx_path.specs.Joining.{EndsWithPart, HasNoSlash, join_of, parent}

-- ## A step up

-- a path's text is no shorter than that of a directory of it
join_shorter : (a : List ℕ) (rest : Atoms) (n : ℕ) → length (join_with_byte 47 (a ∷ take n rest)) ≤ length (join_with_byte 47 (a ∷ rest))
join_shorter a [] zero = omega arith
join_shorter a [] (suc n) = omega arith
join_shorter a (b ∷ bs) zero = omega (arith, length-append a (47 ∷ join_with_byte 47 (b ∷ bs)))
join_shorter a (b ∷ bs) (suc n) =
    omega (arith, length-append a (47 ∷ join_with_byte 47 (b ∷ bs)), length-append a (47 ∷ join_with_byte 47 (b ∷ take n bs)), join_shorter b bs n)

join_some : (a : List ℕ) (rest : Atoms) → length a ≤ length (join_with_byte 47 (a ∷ rest))
join_some a [] = omega arith
join_some a (b ∷ bs) = omega (arith, length-append a (47 ∷ join_with_byte 47 (b ∷ bs)))

parent_short : (a : List ℕ) (rest : Atoms) → IsPath (a ∷ rest) → length (path_text (take (length rest) (a ∷ rest))) ≤ MAX_PATH_BYTES
parent_short a [] h = omega (arith, h.atoms.0.some, h.short)
parent_short a (b ∷ bs) h = omega (arith, join_shorter a (b ∷ bs) (length bs), h.short)

-- `..` leads to the directory that a path lies in
pub join_up : (path : Atoms) → IsPath path → join_of path (codes "..") ≡ parent path
join_up [] h = refl
join_up (a ∷ rest) h = ap (λ t. cond t (Some (take (length rest) (a ∷ rest))) None) (le-leb (length (path_text (take (length rest) (a ∷ rest)))) MAX_PATH_BYTES (parent_short a rest h))

-- ## The directory that a path lies in, by its text

take_all_but_last : (a : List ℕ) (rest : Atoms) (part : List ℕ) → take (length (rest ++ part ∷ [])) (a ∷ rest ++ part ∷ []) ≡ a ∷ rest
take_all_but_last a rest part =
    ap (λ n. take n (a ∷ rest ++ part ∷ [])) (length-append rest (part ∷ []) ∙ one_more_of (length rest)) ∙ take-append_seam (a ∷ rest) (part ∷ [])
  where
    one_more_of : (n : ℕ) → n + 1 ≡ suc n
    one_more_of n = omega arith

-- the path is one atom
pub parent_alone : (path : Atoms) → IsPath path → path_text path ≢ codes "." → HasNoSlash (path_text path) → parent path ≡ Some []
parent_alone path h other none = ap parent (sym (atoms_from_text path h other) ∙ split_whole (path_text path) none)

-- what precedes the last `/` names the directory
pub parent_named : (path dir : Atoms) (before : List ℕ) → IsPath path → path_text path ≢ codes "." → EndsWithPart before (path_text path) → Names before dir
    → parent path ≡ Some dir
parent_named path [] before h other e n = absurd (n.not_root refl)
parent_named path (a ∷ rest) before h other e n =
    let text : path_text path ≡ join_with_byte 47 (a ∷ rest) ++ 47 ∷ e.part = e.text_is ∙ ap (λ t. t ++ 47 ∷ e.part) n.text_is in
    let atoms : path ≡ (a ∷ rest) ++ e.part ∷ [] =
    sym (atoms_from_text path h other) ∙ ap (slice_split is_slash) text ∙ split-below a rest e.part n.is_path.atoms
    ∙ ap (λ parts. (a ∷ rest) ++ parts) (split_whole e.part e.whole) in
    ap parent atoms ∙ ap Some (take_all_but_last a rest e.part)

-- ## What a path lies below

-- the path, if there is one, is the directory or lies below it
abbrev pub lies_at_or_below : Option Atoms → Atoms → Bool
lies_at_or_below None dir = false
lies_at_or_below (Some path) dir = is_at_or_below path dir

abbrev rest_below : Option Atoms → Bool
rest_below o = option_map_or (λ (atom : List ℕ). true) (option_and_then first_atom o) false

single : (t : Bool) (ds : Atoms) → rest_below (cond t (strip_dir ds []) None) ≡ false
single true [] = refl
single true (x ∷ xs) = refl
single false ds = refl

step : (t s : Bool) (x y : Option Atoms) (same : Bool) → s ≡ t → rest_below x ≡ (same || rest_below y)
    → rest_below (cond t x None) ≡ ((s && same) || rest_below (cond t y None))
step true s x y same e h = h ∙ ap (λ b. (b && same) || rest_below y) (sym e)
step false s x y same e h = ap (λ b. (b && same) || false) (sym e)

below_take : (a : List ℕ) (rest dir : Atoms)
    → is_below (a ∷ rest) dir ≡ (same_path (take (length rest) (a ∷ rest)) dir || is_below (take (length rest) (a ∷ rest)) dir)
below_take a [] [] = refl
below_take a [] (d ∷ ds) = single (bytes_eq d a) ds
below_take a (b ∷ bs) [] = refl
below_take a (b ∷ bs) (d ∷ ds) =
    step (bytes_eq d a) (bytes_eq a d) (strip_dir ds (b ∷ bs)) (strip_dir ds (take (length bs) (b ∷ bs))) (same_path (take (length bs) (b ∷ bs)) ds)
    (nat_list_eq_equiv.symm a d) (below_take b bs ds)

-- a path lies below the directory that it lies in, and below what that lies below
pub below_parent : (path dir : Atoms) → is_below path dir ≡ lies_at_or_below (parent path) dir
below_parent [] [] = refl
below_parent [] (d ∷ ds) = refl
below_parent (a ∷ rest) dir = below_take a rest dir

-- ## One directory after the other

grouped : (a b c : Bool) → ((a || b) || c) ≡ (a || (b || c))
grouped true b c = refl
grouped false b c = refl

abbrev pub size_of : Option Atoms → ℕ
size_of None = 0
size_of (Some path) = length path + 1

pub parent_smaller : (path : Atoms) → size_of (parent path) < length path + 1
parent_smaller [] = omega arith
parent_smaller (a ∷ rest) = omega (arith, length-take (length rest) (a ∷ rest))

pub one_up : (dirs : List Atoms) (dir q : Atoms) (next : Option Atoms) (below : Bool) → next ≡ parent dir
    → (list_any (λ d. same_path d q) dirs || lies_at_or_below (Some dir) q) ≡ below
    → (list_any (λ d. same_path d q) (dirs ++ dir ∷ []) || lies_at_or_below next q) ≡ below
one_up dirs dir q next below is so_far =
    ap (λ t. t || lies_at_or_below next q) (any_last (λ d. same_path d q) dirs dir)
    ∙ grouped (list_any (λ d. same_path d q) dirs) (same_path dir q) (lies_at_or_below next q)
    ∙ ap (λ (o : Option Atoms). list_any (λ d. same_path d q) dirs || (same_path dir q || lies_at_or_below o q)) is
    ∙ ap (λ t. list_any (λ d. same_path d q) dirs || (same_path dir q || t)) (sym (below_parent dir q))
    ∙ so_far

pub whole : (dirs : List Atoms) (q : Atoms) → (list_any (λ d. same_path d q) dirs || false) ≡ list_any (λ d. same_path d q) dirs
whole dirs q = same (list_any (λ d. same_path d q) dirs)
  where
    same : (t : Bool) → (t || false) ≡ t
    same true = refl
    same false = refl

-- ## A directory more in a set

more_or : (t a old before now : Bool) → now ≡ cond t true before → before ≡ (a || old) → now ≡ ((a || t) || old)
more_or true true old before now put so_far = put
more_or true false old before now put so_far = put
more_or false true old before now put so_far = put ∙ so_far
more_or false false old before now put so_far = put ∙ so_far

pub one_more : (above : List Atoms) (i : ℕ) (dir k q : Atoms) (old before now : Bool) → i < length above → dir ≡ get_or above i dir → k ≡ dir
    → now ≡ cond (is_at (path_cmp k) q) true before → before ≡ (list_any (λ d. same_path d q) (take i above) || old)
    → now ≡ (list_any (λ d. same_path d q) (take (i + 1) above) || old)
one_more above i dir k q old before now l is key put so_far =
    more_or (same_path dir q) (list_any (λ d. same_path d q) (take i above)) old before now
    (put ∙ ap (λ (x : Atoms). cond (is_at (path_cmp x) q) true before) key ∙ ap (λ t. cond t true before) (sym (path_cmp_matches dir q)))
    so_far
    ∙ sym (ap (λ t. t || old) (ap (list_any (λ d. same_path d q)) (take_more above i dir l ∙ ap (λ (x : Atoms). take i above ++ x ∷ []) (sym is))
    ∙ any_last (λ d. same_path d q) (take i above) dir))
