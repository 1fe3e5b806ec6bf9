-- Opaque directories in the order of their pips, and the members of directories, one directory after the other.
use Rattle.std.proofs.Common.{◌≡◌, ℕ, suc, ◌+◌, ◌<◌, ◌≤◌, Bool, true, false, not, cond, nat_le, Option, Some, None, Bor, List, [], ◌∷◌, ◌++◌, length, filter, map, take, get_or, refl, ap, sym, subst, ◌∙◌, append-nil, append_assoc, arith, inl, inr}
use Rattle.std.specs.Prelude.{nat_lt, slice_get}
use Rattle.std.specs.Option.{unwrap_or}
use Rattle.std.specs.List.{AllByRecursion, flat_map, insert, position_or_len}
use Rattle.std.proofs.lemmas.List.{map-append, map_more}
use Rattle.std.proofs.lemmas.List.Sums.{prefix_len-le-length}
use Rattle.std.proofs.lemmas.Bool.{cases_Bool, false≢true, ltb-false}
use Rattle.bx_tree.specs.Paths.{Atoms}
use Rattle.bx_tree.specs.Trees.{Files}
use Rattle.pip_model_types.specs.Dirs.{dir_pip}
use Rattle.pip_model_types.specs.declared.dir_inputs.DirInput.{DirInput}
use Rattle.pip_model_types.specs.declared.dir_inputs.DirInput.TheVariants.{Sealed, Opaque}
use Rattle.pip_model_types.specs.declared.dir_inputs.SealForm.TheVariants.{Full, Partial, SourceTop, SourceAll}
use Rattle.pip_model_types.specs.declared.pip.Pip.{Pip}
use Rattle.pip_view.specs.Gathered.{opaque_members, with_opaque}
use Rattle.pip_model_types.specs.declared.pip.ProcessDesc.{ProcessDesc}
use Rattle.pip_model_types.specs.Kinds.{listed_in}
use Rattle.pip_view.specs.InputFiles.{by_pip, dir_members, insert_by_pip, is_listed, is_opaque, named_files}
use Rattle.pip_view.specs.Taken.{dirs_files, taken_bytes, taken_files}
use Rattle.pip_view_inputs.specs.Contents.{bytes_at, input_file}
use Rattle.pip_view_inputs.specs.Results.{ByPip}

-- ## Insertion

abbrev comes_after : DirInput → DirInput → Bool
comes_after dir other = nat_le (dir_pip dir) (dir_pip other)

abbrev place_in : DirInput → List (Bor DirInput) → ℕ
place_in dir dirs = position_or_len (λ (d : Bor DirInput). comes_after dir d.now) dirs

abbrev now_of : List (Bor DirInput) → List DirInput
now_of dirs = map (λ (d : Bor DirInput). d.now) dirs

inserted : (dir : Bor DirInput) (dirs : List (Bor DirInput)) → now_of (insert dirs (place_in dir.now dirs) dir) ≡ insert_by_pip dir.now (now_of dirs)
inserted dir [] = refl
inserted dir (other ∷ rest) = by_test (comes_after dir.now other.now) (inserted dir rest)
  where
    by_test : (t : Bool) → now_of (insert rest (place_in dir.now rest) dir) ≡ insert_by_pip dir.now (now_of rest)
        → now_of (insert (other ∷ rest) (cond (not t) (1 + place_in dir.now rest) 0) dir)
        ≡ cond t (dir.now ∷ other.now ∷ now_of rest) (other.now ∷ insert_by_pip dir.now (now_of rest))
    by_test true more = refl
    by_test false more =
        let later : 1 + place_in dir.now rest ≡ suc (place_in dir.now rest) = omega arith in
        ap (λ n. now_of (insert (other ∷ rest) n dir)) later ∙ ap (λ ds. other.now ∷ ds) more

-- a directory put at its place
pub put_by_pip : (dir : Bor DirInput) (sorted new : List (Bor DirInput)) (place : ℕ)
    → place ≡ position_or_len (λ (d : Bor DirInput). nat_le (dir_pip dir.now) (dir_pip d.now)) sorted → new ≡ insert sorted place dir
    → map (λ (d : Bor DirInput). d.now) new ≡ insert_by_pip dir.now (map (λ (d : Bor DirInput). d.now) sorted)
put_by_pip dir sorted new place is e = ap now_of (e ∙ ap (λ n. insert sorted n dir) is) ∙ inserted dir sorted

pub place_within : (test : Bor DirInput → Bool) (sorted : List (Bor DirInput)) (place : ℕ) → place ≡ position_or_len test sorted → place ≤ length sorted
place_within test sorted place e = subst (λ n. n ≤ length sorted) (sym e) (prefix_len-le-length (λ (d : Bor DirInput). not (test d)) sorted)

pub place_or_end : (found : Option ℕ) (place end long : ℕ) → found ≡ cond (nat_lt place long) (Some place) None → place ≤ long → end ≡ long
    → unwrap_or found end ≡ place
place_or_end found place end long is l e = elim (cases_Bool (nat_lt place long)) [
  | inl before ↦ ap (λ o. unwrap_or o end) (is ∙ ap (λ t. cond t (Some place) None) before)
  | inr past ↦
      let level : long ≡ place = omega (arith, l, ltb-false place long past) in
      ap (λ o. unwrap_or o end) (is ∙ ap (λ t. cond t (Some place) None) past) ∙ e ∙ level
]

-- one directory more from the end
pub one_more : (dir : DirInput) (after : List DirInput) → by_pip (filter is_opaque (dir ∷ after)) ≡ with_opaque dir (by_pip (filter is_opaque after))
one_more dir after = by_test (is_opaque dir)
  where
    by_test : (t : Bool) → by_pip (cond t (dir ∷ filter is_opaque after) (filter is_opaque after))
        ≡ cond t (insert_by_pip dir (by_pip (filter is_opaque after))) (by_pip (filter is_opaque after))
    by_test true = refl
    by_test false = refl

-- one directory more, where those that are left are taken from the last to the first
pub one_more_sorted : (left rest whole after sorted next : List DirInput) (dir : DirInput) → left ≡ rest ++ dir ∷ [] → next ≡ with_opaque dir sorted
    → left ++ after ≡ whole → sorted ≡ by_pip (filter is_opaque after)
    → (later : List DirInput) × (rest ++ later ≡ whole) × (next ≡ by_pip (filter is_opaque later))
one_more_sorted left rest whole after sorted next dir e put so_far is = (
  dir ∷ after,
  sym (append_assoc rest (dir ∷ []) after) ∙ ap (λ ds. ds ++ after) (sym e) ∙ so_far,
  put ∙ ap (with_opaque dir) is ∙ sym (one_more dir after),
)

-- no directory more
pub all_sorted : (left whole after sorted : List DirInput) → length left ≡ 0 → left ++ after ≡ whole → sorted ≡ by_pip (filter is_opaque after)
    → sorted ≡ by_pip (filter is_opaque whole)
all_sorted [] whole after sorted e so_far is = is ∙ ap (λ ds. by_pip (filter is_opaque ds)) so_far
all_sorted (dir ∷ left) whole after sorted e so_far is = absurd (omega (arith, e))

-- ## Members

-- the files that directories list are the members of the seals that list them
taken_all : (pips : List Pip) (tree : Files) (made : ByPip) (dirs : List DirInput)
    → map (input_file tree made) (dirs_files pips dirs) ≡ flat_map (dir_members pips tree made) (filter is_listed dirs)
taken_all pips tree made [] = refl
taken_all pips tree made (Sealed pip Full root ∷ dirs) =
    map-append (input_file tree made) (listed_in (slice_get pips pip)) (dirs_files pips dirs)
    ∙ ap (λ fs. dir_members pips tree made (Sealed pip Full root) ++ fs) (taken_all pips tree made dirs)
taken_all pips tree made (Sealed pip Partial root ∷ dirs) =
    map-append (input_file tree made) (listed_in (slice_get pips pip)) (dirs_files pips dirs)
    ∙ ap (λ fs. dir_members pips tree made (Sealed pip Partial root) ++ fs) (taken_all pips tree made dirs)
taken_all pips tree made (Sealed pip SourceTop root ∷ dirs) = taken_all pips tree made dirs
taken_all pips tree made (Sealed pip SourceAll root ∷ dirs) = taken_all pips tree made dirs
taken_all pips tree made (Opaque pip path ∷ dirs) = taken_all pips tree made dirs

-- the members of opaque directories are what `opaque_members` says, and only opaque ones are sorted
pub insert_all : (P : DirInput → Type 0) (dir : DirInput) (dirs : List DirInput) → P dir → AllByRecursion P dirs → AllByRecursion P (insert_by_pip dir dirs)
insert_all P dir [] here all = (here, tt)
insert_all P dir (other ∷ rest) here all = by_test (comes_after dir other) (insert_all P dir rest here all.1)
  where
    by_test : (t : Bool) → AllByRecursion P (insert_by_pip dir rest) → AllByRecursion P (cond t (dir ∷ other ∷ rest) (other ∷ insert_by_pip dir rest))
    by_test true more = (here, all)
    by_test false more = (all.0, more)

all_opaque : (dirs : List DirInput) → AllByRecursion (λ d. is_opaque d ≡ true) (by_pip (filter is_opaque dirs))
all_opaque [] = tt
all_opaque (dir ∷ dirs) = by_test (is_opaque dir) refl (all_opaque dirs)
  where
    by_test : (t : Bool) → is_opaque dir ≡ t → AllByRecursion (λ d. is_opaque d ≡ true) (by_pip (filter is_opaque dirs))
        → AllByRecursion (λ d. is_opaque d ≡ true) (by_pip (cond t (dir ∷ filter is_opaque dirs) (filter is_opaque dirs)))
    by_test true e more = insert_all (λ d. is_opaque d ≡ true) dir (by_pip (filter is_opaque dirs)) e more
    by_test false e more = more

opaque_each : (pips : List Pip) (tree : Files) (made : ByPip) (dirs : List DirInput) → AllByRecursion (λ d. is_opaque d ≡ true) dirs
    → flat_map (opaque_members made) dirs ≡ flat_map (dir_members pips tree made) dirs
opaque_each pips tree made [] h = refl
opaque_each pips tree made (Sealed pip form root ∷ dirs) h = absurd (false≢true h.0)
opaque_each pips tree made (Opaque pip path ∷ dirs) h =
    ap (λ fs. dir_members pips tree made (Opaque pip path) ++ fs) (opaque_each pips tree made dirs h.1)

opaque_all : (pips : List Pip) (tree : Files) (made : ByPip) (dirs : List DirInput)
    → flat_map (opaque_members made) (by_pip (filter is_opaque dirs)) ≡ flat_map (dir_members pips tree made) (by_pip (filter is_opaque dirs))
opaque_all pips tree made dirs = opaque_each pips tree made (by_pip (filter is_opaque dirs)) (all_opaque dirs)

-- the named input files are those that a process takes by name, and the members of opaque directories
pub named_split : (pips : List Pip) (tree : Files) (made : ByPip) (d : ProcessDesc)
    → named_files pips tree made d ≡ taken_bytes tree made (taken_files pips d) ++ flat_map (opaque_members made) (by_pip (filter is_opaque d.dirs))
named_split pips tree made d =
    let own = map (input_file tree made) d.files in
    let exe : Atoms × List ℕ = (d.exe, bytes_at tree d.exe) in
    let opaque = flat_map (opaque_members made) (by_pip (filter is_opaque d.dirs)) in
    sym (ap (λ fs. exe ∷ fs ++ opaque) (map-append (input_file tree made) d.files (dirs_files pips d.dirs))
    ∙ ap (λ fs. exe ∷ (own ++ fs) ++ opaque) (taken_all pips tree made d.dirs)
    ∙ ap (λ fs. exe ∷ own ++ flat_map (dir_members pips tree made) (filter is_listed d.dirs) ++ fs) (opaque_all pips tree made d.dirs))

-- ## One directory after the other

one_last : {X : Type 0} (f : X → Files) (xs : List X) (x : X) → flat_map f (xs ++ x ∷ []) ≡ flat_map f xs ++ f x
one_last f [] x = append-nil (f x)
one_last f (y ∷ ys) x = ap (λ fs. f y ++ fs) (one_last f ys x) ∙ sym (append_assoc (f y) (flat_map f ys) (f x))

pub flat_next : (f : DirInput → Files) (dirs : List (Bor DirInput)) (i : ℕ) (dir : Bor DirInput) (start found new : Files) → i < length dirs
    → dir ≡ get_or dirs i dir → found ≡ start ++ flat_map f (map (λ (b : Bor DirInput). b.now) (take i dirs)) → new ≡ found ++ f dir.now
    → new ≡ start ++ flat_map f (map (λ (b : Bor DirInput). b.now) (take (i + 1) dirs))
flat_next f dirs i dir start found new l is so_far more =
    more ∙ ap (λ fs. fs ++ f dir.now) so_far ∙ append_assoc start (flat_map f (now_of (take i dirs))) (f dir.now)
    ∙ ap (λ fs. start ++ fs)
    (sym (one_last f (now_of (take i dirs)) dir.now)
    ∙ ap (flat_map f) (ap (λ (b : Bor DirInput). now_of (take i dirs) ++ b.now ∷ []) is ∙ sym (map_more (λ (b : Bor DirInput). b.now) dirs i dir l)))
