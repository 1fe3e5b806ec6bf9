-- Clashes of writes, searched for one by one.
use Rattle.std.proofs.Common.{◌≡◌, ℕ, suc, ◌+◌, ◌<◌, ◌≤◌, Bool, true, false, ◌&&◌, ◌||◌, List, [], ◌∷◌, length, map, take, drop, get_or, Option, Some, None, refl, ap, sym, ◌∙◌, add-one, arith}
use Rattle.std.specs.Prelude.{if◌then◌else◌}
use Rattle.std.specs.List.{filter, list_any}
use Rattle.std.proofs.lemmas.Bool.{cases_Bool, false≢true}
use Rattle.std.proofs.lemmas.List.{drop_all}
use Rattle.std.proofs.Math.Seq.{drop-cons}
use Rattle.bx_tree.specs.Paths.{Atoms}
use Rattle.bx_tree.specs.Trees.{Files, paths_of}
use Rattle.bx_tree.specs.Below.{is_below}
use Rattle.violations.specs.Slots.{slot_files}
use Rattle.pip_model_types.specs.Made.{made_files}
use Rattle.pip_model_types.specs.declared.made.MadeFile.{MadeFile}
use Rattle.pip_model_types.specs.declared.made.Slot.{Slot}
use Rattle.pip_model_types.specs.declared.outputs.OutDir.{OutDir}
use Rattle.pip_model_types.specs.declared.pip.Pip.{Pip}
use Rattle.violations.specs.DoubleWrites.{clash_of, first_clash, has_clash, is_clash, is_shared, least_clash, or_next, shared_paths}
use Rattle.pip_model_types.specs.Kinds.{outdirs_of}

-- ## Files in shared directories

-- a test of files in shared directories, one by one
any_shared : (path : Atoms) (dirs : List OutDir) (files : List MadeFile)
    → list_any (λ (f : MadeFile). is_shared dirs f.path && is_clash path f.path) files ≡ list_any (is_clash path) (shared_paths dirs (made_files files))
any_shared path dirs [] = refl
any_shared path dirs (f ∷ fs) = by_test (is_shared dirs f.path) (any_shared path dirs fs)
  where
    by_test : (t : Bool)
        → list_any (λ (g : MadeFile). is_shared dirs g.path && is_clash path g.path) fs ≡ list_any (is_clash path) (shared_paths dirs (made_files fs))
        → ((t && is_clash path f.path) || list_any (λ (g : MadeFile). is_shared dirs g.path && is_clash path g.path) fs)
        ≡ list_any (is_clash path) (if t then f.path ∷ shared_paths dirs (made_files fs) else shared_paths dirs (made_files fs))
    by_test true more = ap (λ b. is_clash path f.path || b) more
    by_test false more = more

-- no path lies in a shared directory where none is shared
none_shared_path : (dirs : List OutDir) (path : Atoms) → list_any (λ (d : OutDir). d.shared) dirs ≡ false → is_shared dirs path ≡ false
none_shared_path [] path e = refl
none_shared_path (d ∷ ds) path e = by_test d.shared (is_below path d.path) e (none_shared_path ds path)
  where
    by_test : (t below : Bool) → (t || list_any (λ (x : OutDir). x.shared) ds) ≡ false
        → (list_any (λ (x : OutDir). x.shared) ds ≡ false → is_shared ds path ≡ false)
        → ((t && below) || is_shared ds path) ≡ false
    by_test true below h more = absurd (false≢true (sym h))
    by_test false below h more = more h

none_shared : (dirs : List OutDir) (files : Files) → list_any (λ (d : OutDir). d.shared) dirs ≡ false → shared_paths dirs files ≡ []
none_shared dirs [] e = refl
none_shared dirs (f ∷ fs) e =
    ap (λ t. if t then f.0 ∷ shared_paths dirs fs else shared_paths dirs fs) (none_shared_path dirs f.0 e) ∙ none_shared dirs fs e

-- files are looked at only where a directory is shared
pub any_where_shared : (path : Atoms) (dirs : List OutDir) (files : List MadeFile)
    → (list_any (λ (d : OutDir). d.shared) dirs && list_any (λ (f : MadeFile). is_shared dirs f.path && is_clash path f.path) files)
    ≡ list_any (is_clash path) (shared_paths dirs (made_files files))
any_where_shared path dirs files = by_test (list_any (λ (d : OutDir). d.shared) dirs) refl
  where
    by_test : (t : Bool) → list_any (λ (d : OutDir). d.shared) dirs ≡ t
        → (t && list_any (λ (f : MadeFile). is_shared dirs f.path && is_clash path f.path) files) ≡ list_any (is_clash path) (shared_paths dirs (made_files files))
    by_test true e = any_shared path dirs files
    by_test false e = sym (ap (list_any (is_clash path)) (none_shared dirs (made_files files) e))

-- ## The least pip

abbrev made_by : List Slot → List Files
made_by = map slot_files

-- the next pip is asked
next_asked : (path : Atoms) (pips : List Pip) (slots : List Slot) (j : ℕ) (pip : Pip) (slot : Slot) → j < length pips → j < length slots
    → pip ≡ get_or pips j pip → slot ≡ get_or slots j slot
    → least_clash path j (drop j pips) (made_by (drop j slots))
    ≡ (if has_clash path pip.kind (slot_files slot) then Some j else least_clash path (j + 1) (drop (suc j) pips) (made_by (drop (suc j) slots)))
next_asked path pips slots j pip slot l k is_pip is_slot =
    let more = least_clash path (j + 1) (drop (suc j) pips) (made_by (drop (suc j) slots)) in
    ap (λ ps. least_clash path j ps (made_by (drop j slots))) (drop-cons pips j pip l)
    ∙ ap (λ ss. least_clash path j (get_or pips j pip ∷ drop (suc j) pips) (made_by ss)) (drop-cons slots j slot k)
    ∙ ap (λ (p : Pip). if has_clash path p.kind (slot_files (get_or slots j slot)) then Some j else more) (sym is_pip)
    ∙ ap (λ s. if has_clash path pip.kind (slot_files s) then Some j else more) (sym is_slot)

pub next_passed : (path : Atoms) (pips : List Pip) (slots : List Slot) (j : ℕ) (pip : Pip) (slot : Slot) → j < length pips → j < length slots
    → pip ≡ get_or pips j pip → slot ≡ get_or slots j slot → has_clash path pip.kind (slot_files slot) ≡ false
    → least_clash path j (drop j pips) (made_by (drop j slots)) ≡ least_clash path (j + 1) (drop (j + 1) pips) (made_by (drop (j + 1) slots))
next_passed path pips slots j pip slot l k is_pip is_slot differs =
    next_asked path pips slots j pip slot l k is_pip is_slot
    ∙ ap (λ t. if t then Some j else least_clash path (j + 1) (drop (suc j) pips) (made_by (drop (suc j) slots))) differs
    ∙ ap (λ m. least_clash path (j + 1) (drop m pips) (made_by (drop m slots))) (sym (add-one j))

pub next_found : (path : Atoms) (pips : List Pip) (slots : List Slot) (j : ℕ) (pip : Pip) (slot : Slot) → j < length pips → j < length slots
    → pip ≡ get_or pips j pip → slot ≡ get_or slots j slot → has_clash path pip.kind (slot_files slot) ≡ true
    → least_clash path j (drop j pips) (made_by (drop j slots)) ≡ Some j
next_found path pips slots j pip slot l k is_pip is_slot agrees =
    next_asked path pips slots j pip slot l k is_pip is_slot
    ∙ ap (λ t. if t then Some j else least_clash path (j + 1) (drop (suc j) pips) (made_by (drop (suc j) slots))) agrees

pub none_left : (path : Atoms) (pips : List Pip) (slots : List Slot) (j : ℕ) → length pips ≤ j
    → least_clash path j (drop j pips) (made_by (drop j slots)) ≡ None
none_left path pips slots j l = ap (λ ps. least_clash path j ps (made_by (drop j slots))) (drop_all j pips l)

-- ## The first file

abbrev clash_at_file : List OutDir → List Pip → List Files → Atoms → Option ℕ
clash_at_file dirs before made path = if is_shared dirs path then least_clash path 0 before made else None

-- the next file is asked
file_asked : (dirs : List OutDir) (before : List Pip) (made : List Files) (files : List MadeFile) (n : ℕ) (f : MadeFile) → n < length files
    → f ≡ get_or files n f
    → clash_of before made dirs (made_files (drop n files))
    ≡ or_next f.path (clash_at_file dirs before made f.path) (clash_of before made dirs (made_files (drop (n + 1) files)))
file_asked dirs before made files n f l is =
    ap (λ fs. clash_of before made dirs (made_files fs)) (drop-cons files n f l)
    ∙ ap (λ (g : MadeFile). clash_of before made dirs (made_files (g ∷ drop (suc n) files))) (sym is)
    ∙ by_test (is_shared dirs f.path)
    ∙ ap (λ m. or_next f.path (clash_at_file dirs before made f.path) (clash_of before made dirs (made_files (drop m files)))) (sym (add-one n))
  where
    rest : List Atoms
    rest = shared_paths dirs (made_files (drop (suc n) files))

    by_test : (t : Bool)
        → first_clash (if t then f.path ∷ rest else rest) before made
        ≡ or_next f.path (if t then least_clash f.path 0 before made else None) (first_clash rest before made)
    by_test true = refl
    by_test false = refl

pub file_passed : (dirs : List OutDir) (before : List Pip) (made : List Files) (files : List MadeFile) (n : ℕ) (f : MadeFile) → n < length files
    → f ≡ get_or files n f → clash_at_file dirs before made f.path ≡ None
    → clash_of before made dirs (made_files (drop n files)) ≡ clash_of before made dirs (made_files (drop (n + 1) files))
file_passed dirs before made files n f l is differs =
    file_asked dirs before made files n f l is
    ∙ ap (λ o. or_next f.path o (clash_of before made dirs (made_files (drop (n + 1) files)))) differs

pub file_found : (dirs : List OutDir) (before : List Pip) (made : List Files) (files : List MadeFile) (n : ℕ) (f : MadeFile) (j : ℕ) → n < length files
    → f ≡ get_or files n f → clash_at_file dirs before made f.path ≡ Some j
    → clash_of before made dirs (made_files (drop n files)) ≡ or_next f.path (Some j) None
file_found dirs before made files n f j l is agrees =
    file_asked dirs before made files n f l is
    ∙ ap (λ o. or_next f.path o (clash_of before made dirs (made_files (drop (n + 1) files)))) agrees

pub no_file_left : (dirs : List OutDir) (before : List Pip) (made : List Files) (files : List MadeFile) (n : ℕ) → length files ≤ n
    → clash_of before made dirs (made_files (drop n files)) ≡ None
no_file_left dirs before made files n l = ap (λ fs. clash_of before made dirs (made_files fs)) (drop_all n files l)
