-- Texts of files in a tree, and the module files of a list.
use Rattle.std.proofs.Common.{◌≡◌, ◌<◌, ◌≤◌, ◌+◌, ℕ, suc, zero, Bool, true, false, List, [], ◌∷◌, ◌++◌, Some, length, take, get_or, map, cond, refl, ap, sym, subst, ◌∙◌, inl, inr, arith}
use Rattle.std.specs.Prelude.{Contains, All, ◌||◌}
use Rattle.std.specs.List.{AllByRecursion, AllZip}
use Rattle.std.proofs.Math.Seq.{take-suc}
use Rattle.std.proofs.lemmas.Bool.{cases_Bool}
use Rattle.std.proofs.lemmas.List.{length-map}
use Rattle.std.proofs.lemmas.List.Elements.{All-from_recursion, Contains-get_or}
use Rattle.bx_tree.specs.Bundle.{IsInSize}
use Rattle.bx_tree.specs.Paths.{Atoms, has_path, same_path}
use Rattle.bx_tree.specs.Orders.{same_path_decides}
use Rattle.bx_tree.specs.Trees.{Files, file_at, paths_of}
use Rattle.bx_tree.specs.declared.limits.TheConstants.{MAX_FILE_BYTES}
use Rattle.dscript_names_workspace.specs.Finding.{IsModuleFile, IsReadAt}
use Rattle.dscript_names_workspace.specs.Paths.{AreWithin, paths_at}
use Rattle.dscript_names_workspace.specs.Membership.{dir_of, implied_files}
use Rattle.dscript_names_workspace.specs.Workspaces.{ModuleFile}

short : (files : Files) (path : Atoms) (text : List ℕ) → AllByRecursion (λ f. length f.1 ≤ MAX_FILE_BYTES) files
    → file_at files path ≡ Some text → length text ≤ MAX_FILE_BYTES
short [] path text h e = cc
short (f ∷ fs) path text h e = elim (cases_Bool (same_path f.0 path)) [
  | inl same ↦
      let is : f.1 ≡ text = same_some f.1 text (sym (ap (λ b. cond b (Some f.1) (file_at fs path)) same) ∙ e) in
      subst (λ t. length t ≤ MAX_FILE_BYTES) is h.0
  | inr differ ↦ short fs path text h.1 (sym (ap (λ b. cond b (Some f.1) (file_at fs path)) differ) ∙ e)
]
  where
    same_some : (x y : List ℕ) → Some x ≡ Some y → x ≡ y
    same_some x y e = cc

-- the text of a file of a tree that keeps within the limits is short
pub text_fits : (files : Files) (path : Atoms) (text : List ℕ) → IsInSize files → file_at files path ≡ Some text
    → length text ≤ MAX_FILE_BYTES
text_fits files path text h e = short files path text h.sizes e

-- files at positions are there
pub paths_are_there : (files : Files) (positions : List ℕ) → AreWithin files positions
    → All (Contains (paths_of files)) (paths_at files positions)
paths_are_there files positions h = All-from_recursion (Contains (paths_of files)) (paths_at files positions) (each files positions h)
  where
    each : (files : Files) (positions : List ℕ) → AreWithin files positions
        → AllByRecursion (Contains (paths_of files)) (paths_at files positions)
    each files [] h = tt
    each files (q ∷ qs) h = (
      Contains-get_or (paths_of files) q [] (subst (λ n. q < n) (sym (length-map files (λ f. f.0))) h.0),
      each files qs h.1,
    )

zip_push : {X Y : Type 0} (R : X → Y → Type 0) (xs : List X) (ys : List Y) (x : X) (y : Y) → AllZip R xs ys → R x y
    → AllZip R (xs ++ x ∷ []) (ys ++ y ∷ [])
zip_push R [] [] x y h r = (r, tt)
zip_push R [] (b ∷ bs) x y h r = absurd h
zip_push R (a ∷ as') [] x y h r = absurd h
zip_push R (a ∷ as') (b ∷ bs) x y h r = (h.0, zip_push R as' bs x y h.1 r)

member : (paths : List Atoms) (i : ℕ) (path : Atoms) → i < length paths → path ≡ get_or paths i path
    → has_path (map dir_of paths) (dir_of path) ≡ true
member [] i path l is = absurd (omega (arith, l))
member (p ∷ ps) zero path l is =
    ap (λ b. b || has_path (map dir_of ps) (dir_of path)) ((same_path_decides (dir_of p) (dir_of path)).1 (ap dir_of (sym is)))
member (p ∷ ps) (suc i) path l is =
    ap (λ b. same_path (dir_of p) (dir_of path) || b) (member ps i path (omega (arith, l)) is)
    ∙ or_true (same_path (dir_of p) (dir_of path))
  where
    or_true : (b : Bool) → (b || true) ≡ true
    or_true true = refl
    or_true false = refl

-- one more module file is read
pub read_more : (files : Files) (listed : List Atoms) (i : ℕ) (path : Atoms) (found : List ModuleFile) (m : ModuleFile)
    (own : Atoms → List Atoms) → i < length listed → path ≡ get_or listed i path
    → ((dir : Atoms) → has_path (map dir_of listed) dir ≡ true → own dir ≡ implied_files files (map dir_of listed) dir)
    → AllZip (IsModuleFile files (map dir_of listed)) (take i listed) found → IsReadAt files (own (dir_of path)) path m
    → AllZip (IsModuleFile files (map dir_of listed)) (take (i + 1) listed) (found ++ m ∷ [])
read_more files listed i path found m own l is same h r =
    let R = IsModuleFile files (map dir_of listed) in
    let here : R path m =
    subst (λ ps. IsReadAt files ps path m) (same (dir_of path) (member listed i path l is)) r in
    subst (λ xs. AllZip R xs (found ++ m ∷ [])) (sym (prefix-more listed i path l is))
    (zip_push R (take i listed) found path m h here)
  where
    prefix-more : (paths : List Atoms) (i : ℕ) (path : Atoms) → i < length paths → path ≡ get_or paths i path
        → take (i + 1) paths ≡ take i paths ++ path ∷ []
    prefix-more paths i path l is =
        ap (λ n. take n paths) (let n : i + 1 ≡ suc i = omega arith in n) ∙ take-suc paths i path l
        ∙ ap (λ p. take i paths ++ p ∷ []) (sym is)
