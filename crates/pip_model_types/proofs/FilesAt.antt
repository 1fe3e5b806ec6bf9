-- The file at a path, in lists that rise by path.
use Rattle.std.proofs.Common.{append_assoc, append-nil, length-append, ◌++◌, inl, inr, ◌≡◌, ◌≢◌, ℕ, ◌<◌, cond, List, [], ◌∷◌, length, get_or, map, refl, ap, sym, ◌∙◌, subst, arith, Some, None, zero, suc}
use Rattle.std.specs.List.{All, AllByRecursion, Contains, HoldsAt, zip}
use Rattle.std.proofs.lemmas.Bool.{cases_Bool}
use Rattle.std.proofs.lemmas.List.{length-map, get_or-map}
use Rattle.std.proofs.lemmas.List.Elements.{All-contains, All-map, recursion_from_All}
use Rattle.bx_tree.specs.Orders.{same_path_decides}
use Rattle.bx_tree.specs.Paths.{Atoms, same_path}
use Rattle.bx_tree.specs.Ranges.{AreFilePaths}
use Rattle.bx_tree.specs.Trees.{Files, IsTree, file_at, paths_of}
use Rattle.bx_tree.proofs.FileSearch.{file_at-found}
use Rattle.pip_model_types.specs.Made.{RisingFiles, made_files}
use Rattle.pip_model_types.specs.declared.made.MadeFile.{MadeFile}

file_at-none : (fs : Files) (p : Atoms) → AllByRecursion (λ q. q ≢ p) (paths_of fs) → file_at fs p ≡ None
file_at-none [] p h = refl
file_at-none (f ∷ fs) p h = elim (cases_Bool (same_path f.0 p)) [
  | inl e ↦ absurd (h.0 ((same_path_decides f.0 p).0 e))
  | inr e ↦ ap (λ b. cond b (Some f.1) (file_at fs p)) e ∙ file_at-none fs p h.1
]

-- no path of the files is this one
pub no_file : (fs : Files) (p : Atoms) → All (λ q. q ≢ p) (paths_of fs) → (file_at fs p ≡ None) × (Contains (paths_of fs) p → ⊥)
no_file fs p h = (file_at-none fs p (recursion_from_All (λ q. q ≢ p) (paths_of fs) h), λ c. All-contains (λ q. q ≢ p) (paths_of fs) p h c refl)

-- the file at a place has this path
pub file_there : (fs : Files) (p : Atoms) (i : ℕ) (d : Atoms × List ℕ) → RisingFiles fs → i < length fs → (get_or fs i d).0 ≡ p
    → (file_at fs p ≡ Some (get_or fs i d).1) × Contains (paths_of fs) p
file_there fs p i d up l e = (
  file_at-found fs p i d up l e,
  (i, omega (arith, l, length-map fs (λ (g : Atoms × List ℕ). g.0)), get_or-map (λ (g : Atoms × List ℕ). g.0) fs i d p l ∙ e),
)

-- ## Files that a pip made

pub paths-made : (fs : List MadeFile) → paths_of (made_files fs) ≡ map (λ (f : MadeFile). f.path) fs
paths-made [] = refl
paths-made (f ∷ fs) = ap (λ ps. f.path ∷ ps) (paths-made fs)

pub no_made : (fs : List MadeFile) (p : Atoms) → All (λ (f : MadeFile). f.path ≢ p) fs
    → (file_at (made_files fs) p ≡ None) × (Contains (paths_of (made_files fs)) p → ⊥)
no_made fs p h = no_file (made_files fs) p
    (subst (All (λ q. q ≢ p)) (sym (paths-made fs)) (All-map (λ q. q ≢ p) (λ (f : MadeFile). f.path) fs h))

pub made_there : (fs : List MadeFile) (p : Atoms) (i : ℕ) (x : MadeFile) → RisingFiles (made_files fs) → i < length fs
    → (get_or fs i x).path ≡ p → (file_at (made_files fs) p ≡ Some (get_or fs i x).blob) × Contains (paths_of (made_files fs)) p
made_there fs p i x up l e =
    let pair : MadeFile → Atoms × List ℕ = λ f. (f.path, f.blob) in
    let seen = get_or-map pair fs i x (x.path, x.blob) l in
    let in' : i < length (made_files fs) = omega (arith, l, length-map fs pair) in
    let there = file_there (made_files fs) p i (x.path, x.blob) up in' (ap (λ f. f.0) seen ∙ e) in
    (there.0 ∙ ap (λ f. Some f.1) seen, there.1)

-- ## Paths beside their bytes

pub paths-zip : (ps : List Atoms) (bs : List (List ℕ)) → length ps ≡ length bs → paths_of (zip ps bs) ≡ ps
paths-zip [] bs e = refl
paths-zip (p ∷ ps) [] e = absurd (omega (arith, e))
paths-zip (p ∷ ps) (b ∷ bs) e = ap (λ qs. p ∷ qs) (paths-zip ps bs (omega (arith, e)))

pub length-zip : (ps : List Atoms) (bs : List (List ℕ)) → length ps ≡ length bs → length (zip ps bs) ≡ length bs
length-zip [] bs e = e
length-zip (p ∷ ps) [] e = absurd (omega (arith, e))
length-zip (p ∷ ps) (b ∷ bs) e = let h = length-zip ps bs (omega (arith, e)) in omega (arith, h)

zip_at : (ps : List Atoms) (bs : List (List ℕ)) (i : ℕ) (d : Atoms) (b : List ℕ) → length ps ≡ length bs → i < length ps
    → get_or (zip ps bs) i (d, b) ≡ (get_or ps i d, get_or bs i b)
zip_at [] bs i d b e l = absurd (omega (arith, l))
zip_at (p ∷ ps) [] i d b e l = absurd (omega (arith, e))
zip_at (p ∷ ps) (c ∷ bs) zero d b e l = refl
zip_at (p ∷ ps) (c ∷ bs) (suc i) d b e l = zip_at ps bs i d b (omega (arith, e)) (omega (arith, l))

pub source_there : (ps : List Atoms) (bs : List (List ℕ)) (p : Atoms) (i : ℕ) (b : List ℕ) → length ps ≡ length bs → RisingFiles (zip ps bs) → i < length ps
    → get_or ps i p ≡ p → (file_at (zip ps bs) p ≡ Some (get_or bs i b)) × Contains (paths_of (zip ps bs)) p
source_there ps bs p i b e up l is =
    let seen = zip_at ps bs i p b e l in
    let there = file_there (zip ps bs) p i (p, b) up (omega (arith, l, e, length-zip ps bs e)) (ap (λ f. f.0) seen ∙ is) in
    (there.0 ∙ ap (λ f. Some f.1) seen, there.1)

zip-push : (ps : List Atoms) (bs : List (List ℕ)) (p : Atoms) (b : List ℕ) → length ps ≡ length bs → zip (ps ++ p ∷ []) (bs ++ b ∷ []) ≡ zip ps bs ++ (p, b) ∷ []
zip-push [] [] p b e = refl
zip-push [] (c ∷ bs) p b e = absurd (omega (arith, e))
zip-push (q ∷ ps) [] p b e = absurd (omega (arith, e))
zip-push (q ∷ ps) (c ∷ bs) p b e = ap (λ fs. (q, c) ∷ fs) (zip-push ps bs p b (omega (arith, e)))

-- the paths and bytes of the first files, with the files that are left
pub record Divides (whole left : Files) (paths : List Atoms) (bytes : List (List ℕ)) : Type 0 where
  pub size : length paths ≡ length bytes
  pub is : zip paths bytes ++ left ≡ whole

pub divides_more : (whole left rest : Files) (ps qs : List Atoms) (bs cs : List (List ℕ)) (p : Atoms) (b : List ℕ)
    → qs ≡ ps ++ p ∷ [] → cs ≡ bs ++ b ∷ [] → left ≡ (p, b) ∷ rest → Divides whole left ps bs → Divides whole rest qs cs
divides_more whole left rest ps qs bs cs p b e f g d = record {
  size = omega (arith, d.size, ap length e, ap length f, length-append ps (p ∷ []), length-append bs (b ∷ []));
  is = ap (λ xs. zip xs cs ++ rest) e ∙ ap (λ ys. zip (ps ++ p ∷ []) ys ++ rest) f ∙ ap (λ fs. fs ++ rest) (zip-push ps bs p b d.size)
      ∙ append_assoc (zip ps bs) ((p, b) ∷ []) rest ∙ ap (λ fs. zip ps bs ++ fs) (sym g) ∙ d.is;
}

pub divides_all : (whole left : Files) (ps : List Atoms) (bs : List (List ℕ)) → left ≡ [] → Divides whole left ps bs → zip ps bs ≡ whole
divides_all whole left ps bs e d = sym (append-nil (zip ps bs)) ∙ ap (λ fs. zip ps bs ++ fs) (sym e) ∙ d.is

-- the paths beside the bytes are those of the files
pub paths_beside : (ps : List Atoms) (bs : List (List ℕ)) (files : Files) (qs : List Atoms) → length ps ≡ length bs → zip ps bs ≡ files
    → qs ≡ paths_of files → qs ≡ ps
paths_beside ps bs files qs e f g = g ∙ ap paths_of (sym f) ∙ paths-zip ps bs e

-- what a search among the paths found or did not find
pub found_beside : (ps : List Atoms) (bs : List (List ℕ)) (files : Files) (qs : List Atoms) (p : Atoms) (i : ℕ) (b : List ℕ)
    → length ps ≡ length bs → zip ps bs ≡ files → qs ≡ paths_of files → RisingFiles files → i < length qs → HoldsAt (λ (q : Atoms). q ≡ p) qs i
    → file_at files p ≡ Some (get_or bs i b)
found_beside ps bs files qs p i b e f g up l h =
    let is = paths_beside ps bs files qs e f g in
    sym (ap (λ fs. file_at fs p) f)
    ∙ (source_there ps bs p i b e (subst RisingFiles (sym f) up) (omega (arith, l, ap length is)) (sym (ap (λ rs. get_or rs i p) is) ∙ h p)).0

pub not_beside : (files : Files) (qs : List Atoms) (p : Atoms) → qs ≡ paths_of files → All (λ (q : Atoms). q ≢ p) qs → file_at files p ≡ None
not_beside files qs p g h = (no_file files p (subst (All (λ q. q ≢ p)) g h)).0

-- the paths beside the bytes of a tree are those of files
pub source_paths : (ps : List Atoms) (bs : List (List ℕ)) (tree : Files) → length ps ≡ length bs → zip ps bs ≡ tree → IsTree tree → AreFilePaths ps
source_paths ps bs tree e f t =
    let is : paths_of tree ≡ ps = ap paths_of (sym f) ∙ paths-zip ps bs e in
    subst AreFilePaths is (record { are_paths = t.paths; no_root = t.no_root; rising = t.rising })
