-- Which files near a path the searched directories list.
use Rattle.std.proofs.Common.{◌≡◌, ℕ, Bool, true, false, ◌||◌, cond, List, [], ◌∷◌, ◌++◌, ◌⊎◌, filter, Option, Some, None, refl, ap, sym, subst, ◌∙◌, inl, inr, arith}
use Rattle.std.specs.Prelude.{Any, Contains, IfSome, IsSomeAnd, slice_get}
use Rattle.std.specs.List.{cons_option, flat_map}
use Rattle.std.specs.Option.{unwrap_or}
use Rattle.std.proofs.lemmas.Bool.{cases_Bool, false≢true, or_cases}
use Rattle.std.proofs.lemmas.List.Elements.{filter-append}
use Rattle.bx_tree.specs.Orders.{same_path_decides}
use Rattle.bx_tree.specs.Paths.{Atoms, IsBelow, same_path}
use Rattle.bx_tree.specs.declared.file_input.FileInput.{FileInput}
use Rattle.bx_tree.specs.Below.{is_below, next_atom}
use Rattle.bx_tree.proofs.BelowPaths.{below_decides}
use Rattle.bx_tree.proofs.AtomsBelow.{none_next}
use Rattle.pip_model_types.specs.Dirs.{RiseByForm, dir_pip}
use Rattle.pip_model_types.specs.declared.dir_inputs.DirInput.{DirInput}
use Rattle.pip_model_types.specs.declared.dir_inputs.DirInput.TheVariants.{Sealed, Opaque}
use Rattle.pip_model_types.specs.declared.dir_inputs.SealForm.TheVariants.{Full, Partial, SourceTop, SourceAll}
use Rattle.pip_model_types.specs.declared.pip.Pip.{Pip}
use Rattle.pip_model_types.specs.Kinds.{listed_files, listed_in}
use Rattle.pip_view_directories.specs.Near.{AreNear, ListsAt}
use Rattle.pip_view_directories.proofs.Rising.{at_head, in_decides, in_rest, is_in, none_there, some_by_test}
use Rattle.pip_view.specs.Taken.{any_below, dir_files, dirs_files, first_at, taken_names}
use Rattle.pip_view.proofs.TakenFiles.{below_after, first_after, names_after, or_first}
use Rattle.bx_tree.specs.FileInputs.{input_path}

-- ## Files at a path or below it

abbrev pub at_or_below : Atoms → FileInput → Bool
at_or_below path file = same_path (input_path file) path || is_below (input_path file) path

lies_at : (path : Atoms) (file : FileInput) → at_or_below path file ≡ true → (input_path file ≡ path) ⊎ IsBelow (input_path file) path
lies_at path file e = elim (or_cases (same_path (input_path file) path) (is_below (input_path file) path) e) [
  | inl same ↦ inl ((same_path_decides (input_path file) path).0 same)
  | inr below ↦ inr ((below_decides (input_path file) path).0 below)
]

pub first_kept : (path : Atoms) (files : List FileInput) → first_at path (filter (at_or_below path) files) ≡ first_at path files
first_kept path [] = refl
first_kept path (f ∷ fs) =
    by_tests (filter (at_or_below path) fs) (same_path (input_path f) path) (is_below (input_path f) path) refl (first_kept path fs)
  where
    by_tests : (kept : List FileInput) (t u : Bool) → same_path (input_path f) path ≡ t → first_at path kept ≡ first_at path fs
        → first_at path (cond (t || u) (f ∷ kept) kept) ≡ cond t (Some f) (first_at path fs)
    by_tests kept true u e more = ap (λ s. cond s (Some f) (first_at path kept)) e
    by_tests kept false true e more = ap (λ s. cond s (Some f) (first_at path kept)) e ∙ more
    by_tests kept false false e more = more

pub below_kept : (path : Atoms) (files : List FileInput) → any_below path (filter (at_or_below path) files) ≡ any_below path files
below_kept path [] = refl
below_kept path (f ∷ fs) =
    by_tests (filter (at_or_below path) fs) (same_path (input_path f) path) (is_below (input_path f) path) refl (below_kept path fs)
  where
    by_tests : (kept : List FileInput) (t u : Bool) → is_below (input_path f) path ≡ u → any_below path kept ≡ any_below path fs
        → any_below path (cond (t || u) (f ∷ kept) kept) ≡ (u || any_below path fs)
    by_tests kept true u e more = ap (λ s. s || any_below path kept) e ∙ ap (λ s. u || s) more
    by_tests kept false true e more = ap (λ s. s || any_below path kept) e
    by_tests kept false false e more = more

pub names_kept : (path : Atoms) (files : List FileInput) → taken_names path (filter (at_or_below path) files) ≡ taken_names path files
names_kept path [] = refl
names_kept path (f ∷ fs) =
    by_tests (filter (at_or_below path) fs) (same_path (input_path f) path) (is_below (input_path f) path) refl (names_kept path fs)
  where
    by_tests : (kept : List FileInput) (t u : Bool) → is_below (input_path f) path ≡ u → taken_names path kept ≡ taken_names path fs
        → taken_names path (cond (t || u) (f ∷ kept) kept) ≡ cons_option (next_atom path (input_path f)) (taken_names path fs)
    by_tests kept true u e more = ap (cons_option (next_atom path (input_path f))) more
    by_tests kept false true e more = ap (cons_option (next_atom path (input_path f))) more
    by_tests kept false false e more = more ∙ sym (ap (λ o. cons_option o (taken_names path fs)) (none_next path (input_path f) e))

-- ## Directories that list none of them

-- what a directory lists, its pip lists
pip_lists : (P : FileInput → Type 0) (o : Option Pip) (f : FileInput) → Contains (listed_in o) f → P f
    → IsSomeAnd o (λ (pip : Pip). Any P (listed_files pip.kind))
pip_lists P None f c p = absurd (none_there f c)
pip_lists P (Some pip) f (k, l, is) p = (k, f, l, is, p)

dir_lists : (pips : List Pip) (dir : DirInput) (path : Atoms) (f : FileInput) → Contains (dir_files pips dir) f → at_or_below path f ≡ true
    → ListsAt pips (dir_pip dir) path
dir_lists pips (Sealed j Full root) path f c e = pip_lists _ (slice_get pips j) f c (lies_at path f e)
dir_lists pips (Sealed j Partial root) path f c e = pip_lists _ (slice_get pips j) f c (lies_at path f e)
dir_lists pips (Sealed j SourceTop root) path f c e = absurd (none_there f c)
dir_lists pips (Sealed j SourceAll root) path f c e = absurd (none_there f c)
dir_lists pips (Opaque j root) path f c e = absurd (none_there f c)

pub none_kept : {X : Type 0} (q : X → Bool) (xs : List X) → ((x : X) → Contains xs x → q x ≡ true → ⊥) → filter q xs ≡ []
none_kept q [] h = refl
none_kept q (x ∷ xs) h = by_test (q x) refl (none_kept q xs (λ y c. h y (in_rest x y xs c)))
  where
    by_test : (t : Bool) → q x ≡ t → filter q xs ≡ [] → cond t (x ∷ filter q xs) (filter q xs) ≡ []
    by_test true e more = absurd (h x (at_head x xs) e)
    by_test false e more = more

-- what is left out gives nothing that passes
pub left_out : {X Y : Type 0} (m : X → List Y) (q : Y → Bool) (g : X → Bool) (xs : List X)
    → ((x : X) → Contains xs x → g x ≡ false → filter q (m x) ≡ []) → filter q (flat_map m (filter g xs)) ≡ filter q (flat_map m xs)
left_out m q g [] h = refl
left_out {X = X} m q g (x ∷ xs) h = by_test (g x) refl (left_out m q g xs (λ y c. h y (in_rest x y xs c)))
  where
    by_test : (t : Bool) → g x ≡ t → filter q (flat_map m (filter g xs)) ≡ filter q (flat_map m xs)
        → filter q (flat_map m (cond t (x ∷ filter g xs) (filter g xs))) ≡ filter q (m x ++ flat_map m xs)
    by_test true e more =
        filter-append q (m x) (flat_map m (filter g xs)) ∙ ap (λ ys. filter q (m x) ++ ys) more ∙ sym (filter-append q (m x) (flat_map m xs))
    by_test false e more =
        more ∙ sym (filter-append q (m x) (flat_map m xs) ∙ ap (λ ys. ys ++ filter q (flat_map m xs)) (h x (at_head x xs) e))

near_files : (pips : List Pip) (path : Atoms) (dirs near : List DirInput) → RiseByForm dirs → AreNear pips dirs path near
    → filter (at_or_below path) (dirs_files pips near) ≡ filter (at_or_below path) (dirs_files pips dirs)
near_files pips path dirs near up h =
    ap (λ ds. filter (at_or_below path) (dirs_files pips ds)) (some_by_test dirs near up h.rising h.some)
    ∙ left_out (dir_files pips) (at_or_below path) (is_in near) dirs
    (λ d c e. none_kept (at_or_below path) (dir_files pips d)
    (λ f k is. false≢true (sym e ∙ (in_decides near d).1 (h.all d c (dir_lists pips d path f k is)))))

-- the directories that are searched list the same files at the path and below it as all do
pub searched_files : (pips : List Pip) (path : Atoms) (dirs : List DirInput) (near : Option (List DirInput)) → RiseByForm dirs
    → IfSome near (AreNear pips dirs path)
    → filter (at_or_below path) (dirs_files pips (unwrap_or near dirs)) ≡ filter (at_or_below path) (dirs_files pips dirs)
searched_files pips path dirs None up h = refl
searched_files pips path dirs (Some near) up h = near_files pips path dirs near up h

-- ## What is asked of them

pub first_same : (path : Atoms) (front xs ys : List FileInput) → filter (at_or_below path) xs ≡ filter (at_or_below path) ys
    → first_at path (front ++ xs) ≡ first_at path (front ++ ys)
first_same path front xs ys e =
    first_after path front xs
    ∙ ap (or_first (first_at path front)) (sym (first_kept path xs) ∙ ap (first_at path) e ∙ first_kept path ys)
    ∙ sym (first_after path front ys)

pub below_same : (path : Atoms) (front xs ys : List FileInput) → filter (at_or_below path) xs ≡ filter (at_or_below path) ys
    → any_below path (front ++ xs) ≡ any_below path (front ++ ys)
below_same path front xs ys e =
    below_after path front xs
    ∙ ap (λ b. any_below path front || b) (sym (below_kept path xs) ∙ ap (any_below path) e ∙ below_kept path ys)
    ∙ sym (below_after path front ys)

pub names_same : (path : Atoms) (front xs ys : List FileInput) → filter (at_or_below path) xs ≡ filter (at_or_below path) ys
    → taken_names path (front ++ xs) ≡ taken_names path (front ++ ys)
names_same path front xs ys e =
    names_after path front xs
    ∙ ap (λ ns. taken_names path front ++ ns) (sym (names_kept path xs) ∙ ap (taken_names path) e ∙ names_kept path ys)
    ∙ sym (names_after path front ys)

-- ## In the lists of a plan

abbrev pub Searched : List Pip → Atoms → List DirInput → Option (List DirInput) → List Pip → List DirInput → Type 0
Searched pips path all near ps dirs =
    (ps ≡ pips) × (dirs ≡ unwrap_or near all) × RiseByForm all × IfSome near (AreNear pips all path)

by_parts : {X : Type 0} (ask : List FileInput → X) (pips ps : List Pip) (front : List FileInput) (dirs found : List DirInput)
    → ps ≡ pips → dirs ≡ found → ask (front ++ dirs_files ps dirs) ≡ ask (front ++ dirs_files pips found)
by_parts ask pips ps front dirs found e k =
    ap (λ (qs : List Pip). ask (front ++ dirs_files qs dirs)) e ∙ ap (λ (ds : List DirInput). ask (front ++ dirs_files pips ds)) k

pub first_searched : (pips ps : List Pip) (path : Atoms) (front : List FileInput) (all dirs : List DirInput) (near : Option (List DirInput))
    → Searched pips path all near ps dirs → first_at path (front ++ dirs_files ps dirs) ≡ first_at path (front ++ dirs_files pips all)
first_searched pips ps path front all dirs near (e, k, up, h) =
    by_parts (first_at path) pips ps front dirs (unwrap_or near all) e k
    ∙ first_same path front (dirs_files pips (unwrap_or near all)) (dirs_files pips all) (searched_files pips path all near up h)

pub below_searched : (pips ps : List Pip) (path : Atoms) (front : List FileInput) (all dirs : List DirInput) (near : Option (List DirInput))
    → Searched pips path all near ps dirs → any_below path (front ++ dirs_files ps dirs) ≡ any_below path (front ++ dirs_files pips all)
below_searched pips ps path front all dirs near (e, k, up, h) =
    by_parts (any_below path) pips ps front dirs (unwrap_or near all) e k
    ∙ below_same path front (dirs_files pips (unwrap_or near all)) (dirs_files pips all) (searched_files pips path all near up h)

pub names_searched : (pips ps : List Pip) (path : Atoms) (front : List FileInput) (all dirs : List DirInput) (near : Option (List DirInput))
    → Searched pips path all near ps dirs → taken_names path (front ++ dirs_files ps dirs) ≡ taken_names path (front ++ dirs_files pips all)
names_searched pips ps path front all dirs near (e, k, up, h) =
    by_parts (taken_names path) pips ps front dirs (unwrap_or near all) e k
    ∙ names_same path front (dirs_files pips (unwrap_or near all)) (dirs_files pips all) (searched_files pips path all near up h)
