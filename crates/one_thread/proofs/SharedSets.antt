-- Sets of the files that processes made in directories which they share, and what does not clash with them.
use Rattle.std.proofs.Common.{◌≡◌, ℕ, zero, suc, ◌+◌, ◌<◌, ◌≤◌, Bool, true, false, ◌||◌, cond, List, [], ◌∷◌, ◌++◌, length, map, take, drop, get_or, Some, None, refl, ap, sym, subst, ◌∙◌, add-one, append_assoc, append-nil, arith, inl, inr}
use Rattle.std.specs.Prelude.{slice_get}
use Rattle.std.specs.BTreeSet.{BTreeSet, contains}
use Rattle.std.specs.BTreeMap.{is_at}
use Rattle.std.specs.List.{list_any}
use Rattle.std.proofs.lemmas.Bool.{cases_Bool, false≢true, or_parts}
use Rattle.std.proofs.lemmas.List.{drop_all, take_more}
use Rattle.std.proofs.Math.Seq.{drop-cons}
use Rattle.std.proofs.lemmas.List.Folds.{list_any-append}
use Rattle.bx_tree.specs.Orders.{path_cmp_matches, same_path_decides}
use Rattle.bx_tree.specs.Paths.{Atoms, path_cmp, same_path}
use Rattle.bx_tree.specs.Trees.{Files}
use Rattle.bx_tree.specs.Below.{is_below}
use Rattle.bx_tree.proofs.Lists.{any_last, any_either, any_alike, any_swap}
use Rattle.violations.specs.Slots.{slot_files}
use Rattle.pip_model_types.specs.Made.{made_files}
use Rattle.pip_model_types.specs.declared.made.MadeFile.{MadeFile}
use Rattle.pip_model_types.specs.declared.made.Slot.{Slot}
use Rattle.pip_model_types.specs.declared.outputs.OutDir.{OutDir}
use Rattle.pip_model_types.specs.declared.pip.Pip.{Pip}
use Rattle.violations.specs.DoubleWrites.{clash_at, first_clash, is_clash, is_shared, least_clash, or_next, outdirs_in, shared_paths}
use Rattle.one_thread.specs.Shared.{KeepsShared, all_shared, any_clash}
use Rattle.pip_model_types.specs.Kinds.{outdirs_of}

-- ## Tests of lists

same_swap : (p q : Atoms) → same_path p q ≡ same_path q p
same_swap p q = elim (cases_Bool (same_path q p)) [
  | inl e ↦ (same_path_decides p q).1 (sym ((same_path_decides q p).0 e)) ∙ sym e
  | inr e ↦ elim (cases_Bool (same_path p q)) [
    | inl f ↦ absurd (false≢true (sym e ∙ (same_path_decides q p).1 (sym ((same_path_decides p q).0 f))))
    | inr f ↦ f ∙ sym e
  ]
]

-- ## A file more

or_last : (t old now : Bool) → now ≡ cond t true old → now ≡ (old || t)
or_last true true now e = e
or_last true false now e = e
or_last false true now e = e
or_last false false now e = e

or_swap : (a b : Bool) → (a || b) ≡ (b || a)
or_swap true true = refl
or_swap true false = refl
or_swap false true = refl
or_swap false false = refl

pub file_kept : (path q : Atoms) (paths : List Atoms) (k : Atoms) (old now : Bool) → k ≡ path → now ≡ cond (is_at (path_cmp k) q) true old
    → old ≡ list_any (λ p. same_path p q) paths → now ≡ list_any (λ p. same_path p q) (paths ++ path ∷ [])
file_kept path q paths k old now key put before =
    or_last (same_path path q) old now
    (put ∙ ap (λ (x : Atoms). cond (is_at (path_cmp x) q) true old) key ∙ ap (λ t. cond t true old) (sym (path_cmp_matches path q)))
    ∙ ap (λ t. t || same_path path q) before ∙ sym (any_last (λ p. same_path p q) paths path)

pub dirs_kept : (path q : Atoms) (paths : List Atoms) (old now : Bool) → now ≡ (is_below path q || old) → old ≡ list_any (λ p. is_below p q) paths
    → now ≡ list_any (λ p. is_below p q) (paths ++ path ∷ [])
dirs_kept path q paths old now put before =
    put ∙ or_swap (is_below path q) old ∙ ap (λ t. t || is_below path q) before ∙ sym (any_last (λ p. is_below p q) paths path)

-- ## The files of a pip, one after the other

pub one_shared : (dirs : List OutDir) (file : MadeFile) (t : Bool) → is_shared dirs file.path ≡ t
    → cond t (file.path ∷ []) [] ≡ shared_paths dirs (made_files (file ∷ []))
one_shared dirs file t e = ap (λ b. cond b (file.path ∷ []) []) (sym e)

shared_put : (dirs : List OutDir) (f : MadeFile) (fs : List MadeFile)
    → shared_paths dirs (made_files (f ∷ fs)) ≡ shared_paths dirs (made_files (f ∷ [])) ++ shared_paths dirs (made_files fs)
shared_put dirs f fs = by_test (is_shared dirs f.path)
  where
    by_test : (t : Bool) → cond t (f.path ∷ shared_paths dirs (made_files fs)) (shared_paths dirs (made_files fs))
        ≡ cond t (f.path ∷ []) [] ++ shared_paths dirs (made_files fs)
    by_test true = refl
    by_test false = refl

shared_next : (dirs : List OutDir) (files : List MadeFile) (i : ℕ) (f : MadeFile) → i < length files → f ≡ get_or files i f
    → shared_paths dirs (made_files (drop i files)) ≡ shared_paths dirs (made_files (f ∷ [])) ++ shared_paths dirs (made_files (drop (i + 1) files))
shared_next dirs files i f l is =
    ap (λ fs. shared_paths dirs (made_files fs)) (drop-cons files i f l)
    ∙ ap (λ (g : MadeFile). shared_paths dirs (made_files (g ∷ drop (suc i) files))) (sym is)
    ∙ shared_put dirs f (drop (suc i) files)
    ∙ ap (λ m. shared_paths dirs (made_files (f ∷ [])) ++ shared_paths dirs (made_files (drop m files))) (sym (add-one i))

shared_append : (dirs : List OutDir) (xs ys : List MadeFile)
    → shared_paths dirs (made_files (xs ++ ys)) ≡ shared_paths dirs (made_files xs) ++ shared_paths dirs (made_files ys)
shared_append dirs [] ys = refl
shared_append dirs (f ∷ fs) ys =
    shared_put dirs f (fs ++ ys) ∙ ap (λ ps. shared_paths dirs (made_files (f ∷ [])) ++ ps) (shared_append dirs fs ys)
    ∙ sym (append_assoc (shared_paths dirs (made_files (f ∷ []))) (shared_paths dirs (made_files fs)) (shared_paths dirs (made_files ys)))
    ∙ ap (λ ps. ps ++ shared_paths dirs (made_files ys)) (sym (shared_put dirs f fs))

-- one file more
pub shared_taken : (dirs : List OutDir) (files : List MadeFile) (i : ℕ) (f : MadeFile) (paths : List Atoms) → i < length files → f ≡ get_or files i f
    → (paths ++ shared_paths dirs (made_files (take i files))) ++ shared_paths dirs (made_files (f ∷ []))
    ≡ paths ++ shared_paths dirs (made_files (take (i + 1) files))
shared_taken dirs files i f paths l is =
    append_assoc paths (shared_paths dirs (made_files (take i files))) (shared_paths dirs (made_files (f ∷ [])))
    ∙ ap (λ ps. paths ++ ps)
    (sym (ap (λ (fs : List MadeFile). shared_paths dirs (made_files fs)) (take_more files i f l ∙ ap (λ (g : MadeFile). take i files ++ g ∷ []) (sym is))
    ∙ shared_append dirs (take i files) (f ∷ [])))

-- ## What clashes

pub above_is : (files dirs : BTreeSet Atoms) (paths above : List Atoms) (path : Atoms) → KeepsShared files dirs paths
    → ((q : Atoms) → list_any (λ dir. same_path dir q) above ≡ is_below path q)
    → list_any (λ d. contains path_cmp files d) above ≡ list_any (λ p. is_below path p) paths
above_is files dirs paths above path h all =
    any_alike (λ d. contains path_cmp files d) (λ d. list_any (λ p. same_path p d) paths) above h.files_are
    ∙ any_swap (λ (d : Atoms) (p : Atoms). same_path p d) above paths
    ∙ any_alike (λ p. list_any (λ d. same_path p d) above) (λ p. is_below path p) paths
    (λ p. any_alike (λ d. same_path p d) (λ d. same_path d p) above (λ d. same_swap p d) ∙ all p)

-- what clashes with one of the paths is one of them, has one below it, or lies below one
clash_is : (files dirs : BTreeSet Atoms) (paths : List Atoms) (path : Atoms) (above : Bool) → KeepsShared files dirs paths
    → above ≡ list_any (λ p. is_below path p) paths
    → ((contains path_cmp files path || contains path_cmp dirs path) || above) ≡ any_clash paths path
clash_is files dirs paths path above h e =
    ap (λ t. (t || contains path_cmp dirs path) || above) (h.files_are path ∙ any_alike (λ p. same_path p path) (same_path path) paths (λ p. same_swap p path))
    ∙ ap (λ t. (list_any (same_path path) paths || t) || above) (h.dirs_are path)
    ∙ ap (λ t. (list_any (same_path path) paths || list_any (λ p. is_below p path) paths) || t) e
    ∙ regroup (list_any (same_path path) paths) (list_any (λ p. is_below p path) paths) (list_any (λ p. is_below path p) paths)
    ∙ ap (λ t. t || list_any (λ p. is_below p path) paths) (sym (any_either (same_path path) (λ p. is_below path p) paths))
    ∙ sym (any_either (λ p. same_path path p || is_below path p) (λ p. is_below p path) paths)
    ∙ any_alike (λ p. (same_path path p || is_below path p) || is_below p path) (is_clash path) paths
    (λ p. grouped (same_path path p) (is_below path p) (is_below p path))
  where
    grouped : (a b c : Bool) → ((a || b) || c) ≡ (a || (b || c))
    grouped true b c = refl
    grouped false b c = refl

    regroup : (a b c : Bool) → ((a || b) || c) ≡ ((a || c) || b)
    regroup true b c = refl
    regroup false true true = refl
    regroup false true false = refl
    regroup false false c = or_swap false c

pub clash_there : (files dirs : BTreeSet Atoms) (paths : List Atoms) (path : Atoms) (t : Bool) → KeepsShared files dirs paths
    → t ≡ contains path_cmp files path → t ≡ true → true ≡ any_clash paths path
clash_there files dirs paths path t h e there =
    sym (ap (λ b. (b || contains path_cmp dirs path) || list_any (λ p. is_below path p) paths) (sym e ∙ there))
    ∙ clash_is files dirs paths path (list_any (λ p. is_below path p) paths) h refl

pub clash_within : (files dirs : BTreeSet Atoms) (paths : List Atoms) (path : Atoms) (t u : Bool) → KeepsShared files dirs paths
    → t ≡ contains path_cmp files path → t ≡ false → u ≡ contains path_cmp dirs path → u ≡ true → true ≡ any_clash paths path
clash_within files dirs paths path t u h e none f there =
    sym (ap (λ b. (b || contains path_cmp dirs path) || list_any (λ p. is_below path p) paths) (sym e ∙ none)
    ∙ ap (λ b. b || list_any (λ p. is_below path p) paths) (sym f ∙ there))
    ∙ clash_is files dirs paths path (list_any (λ p. is_below path p) paths) h refl

pub clash_above : (files dirs : BTreeSet Atoms) (paths : List Atoms) (path : Atoms) (t u above : Bool) → KeepsShared files dirs paths
    → t ≡ contains path_cmp files path → t ≡ false → u ≡ contains path_cmp dirs path → u ≡ false
    → above ≡ list_any (λ p. is_below path p) paths → above ≡ any_clash paths path
clash_above files dirs paths path t u above h e none f outside is =
    sym (ap (λ b. (b || contains path_cmp dirs path) || above) (sym e ∙ none) ∙ ap (λ b. b || above) (sym f ∙ outside))
    ∙ clash_is files dirs paths path above h is

-- one file

or_none : (t : Bool) → t ≡ (t || false)
or_none true = refl
or_none false = refl

pub one_clash : (dirs : List OutDir) (file : MadeFile) (paths : List Atoms) (found : Bool) → is_shared dirs file.path ≡ true → found ≡ any_clash paths file.path
    → found ≡ list_any (any_clash paths) (shared_paths dirs (made_files (file ∷ [])))
one_clash dirs file paths found e is = is ∙ or_none (any_clash paths file.path) ∙ ap (list_any (any_clash paths)) (one_shared dirs file true e)

pub no_one_clash : (dirs : List OutDir) (file : MadeFile) (paths : List Atoms) → is_shared dirs file.path ≡ false
    → false ≡ list_any (any_clash paths) (shared_paths dirs (made_files (file ∷ [])))
no_one_clash dirs file paths e = ap (list_any (any_clash paths)) (one_shared dirs file false e)

-- one file after another
pub next_clash : (dirs : List OutDir) (files : List MadeFile) (i : ℕ) (f : MadeFile) (paths : List Atoms) (found t whole : Bool) → i < length files
    → f ≡ get_or files i f → found ≡ list_any (any_clash paths) (shared_paths dirs (made_files (f ∷ []))) → found ≡ t
    → list_any (any_clash paths) (shared_paths dirs (made_files (drop i files))) ≡ whole
    → (t || list_any (any_clash paths) (shared_paths dirs (made_files (drop (i + 1) files)))) ≡ whole
next_clash dirs files i f paths found t whole l is e same so_far =
    sym (ap (list_any (any_clash paths)) (shared_next dirs files i f l is)
    ∙ list_any-append (any_clash paths) (shared_paths dirs (made_files (f ∷ []))) (shared_paths dirs (made_files (drop (i + 1) files)))
    ∙ ap (λ b. b || list_any (any_clash paths) (shared_paths dirs (made_files (drop (i + 1) files)))) (sym e ∙ same)) ∙ so_far

pub no_clash_left : (dirs : List OutDir) (files : List MadeFile) (i : ℕ) (paths : List Atoms) (whole : Bool) → length files ≤ i
    → list_any (any_clash paths) (shared_paths dirs (made_files (drop i files))) ≡ whole → false ≡ whole
no_clash_left dirs files i paths whole l so_far =
    sym (ap (λ (fs : List MadeFile). list_any (any_clash paths) (shared_paths dirs (made_files fs))) (drop_all i files l)) ∙ so_far

-- ## No clash

least_none : (path : Atoms) (j : ℕ) (pips : List Pip) (made : List Files) → any_clash (all_shared pips made) path ≡ false → least_clash path j pips made ≡ None
least_none path j [] made e = refl
least_none path j (pip ∷ pips) [] e = refl
least_none path j (pip ∷ pips) (files ∷ made) e =
    let own = shared_paths (outdirs_of pip.kind) files in
    let both = sym (list_any-append (is_clash path) own (all_shared pips made)) ∙ e in
    ap (λ t. cond t (Some j) (least_clash path (j + 1) pips made)) (or_parts (list_any (is_clash path) own) (any_clash (all_shared pips made) path) both).0
    ∙ least_none path (j + 1) pips made (or_parts (list_any (is_clash path) own) (any_clash (all_shared pips made) path) both).1

first_none : (paths : List Atoms) (before : List Pip) (made : List Files) → list_any (any_clash (all_shared before made)) paths ≡ false
    → first_clash paths before made ≡ None
first_none [] before made e = refl
first_none (path ∷ paths) before made e =
    ap (λ o. or_next path o (first_clash paths before made))
    (least_none path 0 before made (or_parts (any_clash (all_shared before made) path) (list_any (any_clash (all_shared before made)) paths) e).0)
    ∙ first_none paths before made (or_parts (any_clash (all_shared before made) path) (list_any (any_clash (all_shared before made)) paths) e).1

-- where no file that a pip shares clashes with one before, there is no violation
pub no_clash : (pips : List Pip) (made : List Files) (i : ℕ) (files : Files) (t : Bool) → t ≡ false
    → t ≡ list_any (any_clash (all_shared (take i pips) made)) (shared_paths (outdirs_in (slice_get pips i)) files) → clash_at pips made i files ≡ None
no_clash pips made i files t none e = first_none (shared_paths (outdirs_in (slice_get pips i)) files) (take i pips) made (sym e ∙ none)

-- ## A pip more

shared_more : (pips : List Pip) (slots : List Slot) (n : ℕ) (slot : Slot) → length slots ≡ n → n < length pips
    → all_shared (take (suc n) pips) (map slot_files (slots ++ slot ∷ []))
    ≡ all_shared (take n pips) (map slot_files slots) ++ shared_paths (outdirs_in (slice_get pips n)) (slot_files slot)
shared_more [] slots n slot e l = absurd (omega (arith, l))
shared_more (pip ∷ pips) [] zero slot e l = append-nil (shared_paths (outdirs_of pip.kind) (slot_files slot))
shared_more (pip ∷ pips) [] (suc n) slot e l = absurd (omega (arith, e))
shared_more (pip ∷ pips) (s ∷ slots) zero slot e l = absurd (omega (arith, e))
shared_more (pip ∷ pips) (s ∷ slots) (suc n) slot e l =
    ap (λ ps. shared_paths (outdirs_of pip.kind) (slot_files s) ++ ps) (shared_more pips slots n slot (omega (arith, e)) (omega (arith, l)))
    ∙ sym (append_assoc (shared_paths (outdirs_of pip.kind) (slot_files s)) (all_shared (take n pips) (map slot_files slots))
    (shared_paths (outdirs_in (slice_get pips n)) (slot_files slot)))

pub next_shared : (files dirs : BTreeSet Atoms) (pips : List Pip) (slots new : List Slot) (n : ℕ) (slot : Slot) → length slots ≡ n → n < length pips
    → new ≡ slots ++ slot ∷ []
    → KeepsShared files dirs (all_shared (take n pips) (map slot_files slots) ++ shared_paths (outdirs_in (slice_get pips n)) (slot_files slot))
    → KeepsShared files dirs (all_shared (take (n + 1) pips) (map slot_files new))
next_shared files dirs pips slots new n slot e l more h =
    subst (KeepsShared files dirs)
    (sym (ap (λ (ss : List Slot). all_shared (take (n + 1) pips) (map slot_files ss)) more
    ∙ ap (λ m. all_shared (take m pips) (map slot_files (slots ++ slot ∷ []))) (add-one n) ∙ shared_more pips slots n slot e l)) h

pub none_shared : (files dirs : BTreeSet Atoms) (pips : List Pip) (slots : List Slot) → KeepsShared files dirs [] → slots ≡ []
    → KeepsShared files dirs (all_shared (take 0 pips) (map slot_files slots))
none_shared files dirs pips slots h none = h
