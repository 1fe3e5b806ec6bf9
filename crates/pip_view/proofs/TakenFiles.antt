-- What is asked of the files that a process takes, list by list.
use Rattle.std.proofs.Common.{◌≡◌, ℕ, suc, ◌+◌, ◌<◌, ◌≤◌, Bool, true, false, ◌||◌, cond, List, [], ◌∷◌, ◌++◌, length, drop, get_or, Option, Some, None, refl, ap, sym, ◌∙◌, append_assoc, append-nil, add-one}
use Rattle.std.proofs.lemmas.List.{drop_all}
use Rattle.std.proofs.Math.Seq.{drop-cons}
use Rattle.std.specs.List.{cons_option}
use Rattle.bx_tree.specs.Orders.{same_path_decides}
use Rattle.bx_tree.specs.Paths.{Atoms, same_path}
use Rattle.bx_tree.specs.Trees.{Files, file_at}
use Rattle.bx_tree.specs.declared.file_input.FileInput.{FileInput}
use Rattle.bx_tree.specs.Below.{is_below, next_atom}
use Rattle.tool_run_writes.specs.Writes.{has_below, own_names}
use Rattle.pip_view_inputs.specs.Contents.{bytes_at, input_bytes}
use Rattle.pip_view_inputs.specs.Results.{ByPip}
use Rattle.pip_model_types.specs.declared.dir_inputs.DirInput.{DirInput}
use Rattle.pip_model_types.specs.declared.pip.Pip.{Pip}
use Rattle.pip_model_types.specs.declared.pip.ProcessDesc.{ProcessDesc}
use Rattle.pip_view.specs.Taken.{any_below, dir_files, dirs_files, executable, first_at, taken_bytes, taken_names}
use Rattle.bx_tree.specs.FileInputs.{input_path}

-- ## Files with their bytes

-- the bytes of a file, if there is one
abbrev pub bytes_of : Files → ByPip → Option FileInput → Option (List ℕ)
bytes_of tree made None = None
bytes_of tree made (Some file) = Some (input_bytes tree made file)

pub found_taken : (tree : Files) (made : ByPip) (path : Atoms) (files : List FileInput)
    → bytes_of tree made (first_at path files) ≡ file_at (taken_bytes tree made files) path
found_taken tree made path [] = refl
found_taken tree made path (f ∷ fs) = by_test (same_path (input_path f) path) (found_taken tree made path fs)
  where
    by_test : (t : Bool) → bytes_of tree made (first_at path fs) ≡ file_at (taken_bytes tree made fs) path
        → bytes_of tree made (cond t (Some f) (first_at path fs)) ≡ cond t (Some (input_bytes tree made f)) (file_at (taken_bytes tree made fs) path)
    by_test true more = refl
    by_test false more = more

pub below_taken : (tree : Files) (made : ByPip) (dir : Atoms) (files : List FileInput) → any_below dir files ≡ has_below (taken_bytes tree made files) dir
below_taken tree made dir [] = refl
below_taken tree made dir (f ∷ fs) = ap (λ t. is_below (input_path f) dir || t) (below_taken tree made dir fs)

pub names_of_taken : (tree : Files) (made : ByPip) (dir : Atoms) (files : List FileInput) → taken_names dir files ≡ own_names (taken_bytes tree made files) dir
names_of_taken tree made dir [] = refl
names_of_taken tree made dir (f ∷ fs) = ap (cons_option (next_atom dir (input_path f))) (names_of_taken tree made dir fs)

-- the executable comes first
pub executable_found : (tree : Files) (made : ByPip) (d : ProcessDesc) (path : Atoms) (rest : List FileInput) (bytes : List ℕ) → same_path d.exe path ≡ true
    → bytes ≡ bytes_at tree path → Some bytes ≡ file_at (taken_bytes tree made (executable d ∷ rest)) path
executable_found tree made d path rest bytes same e =
    ap Some e ∙ ap (λ (p : Atoms). Some (bytes_at tree p)) (sym ((same_path_decides d.exe path).0 same))
    ∙ sym (ap (λ b. cond b (Some (bytes_at tree d.exe)) (file_at (taken_bytes tree made rest) path)) same)

pub executable_passed : (tree : Files) (made : ByPip) (d : ProcessDesc) (path : Atoms) (rest : List FileInput) (o : Option FileInput)
    → same_path d.exe path ≡ false → o ≡ first_at path rest → bytes_of tree made o ≡ file_at (taken_bytes tree made (executable d ∷ rest)) path
executable_passed tree made d path rest o other e =
    ap (bytes_of tree made) e ∙ found_taken tree made path rest
    ∙ sym (ap (λ b. cond b (Some (bytes_at tree d.exe)) (file_at (taken_bytes tree made rest) path)) other)

-- ## One list after another

abbrev pub or_first : Option FileInput → Option FileInput → Option FileInput
or_first None o = o
or_first (Some f) o = Some f

pub first_after : (path : Atoms) (xs ys : List FileInput) → first_at path (xs ++ ys) ≡ or_first (first_at path xs) (first_at path ys)
first_after path [] ys = refl
first_after path (x ∷ xs) ys = by_test (same_path (input_path x) path) (first_after path xs ys)
  where
    by_test : (t : Bool) → first_at path (xs ++ ys) ≡ or_first (first_at path xs) (first_at path ys)
        → cond t (Some x) (first_at path (xs ++ ys)) ≡ or_first (cond t (Some x) (first_at path xs)) (first_at path ys)
    by_test true more = refl
    by_test false more = more

pub below_after : (dir : Atoms) (xs ys : List FileInput) → any_below dir (xs ++ ys) ≡ (any_below dir xs || any_below dir ys)
below_after dir [] ys = refl
below_after dir (x ∷ xs) ys = by_test (is_below (input_path x) dir) (below_after dir xs ys)
  where
    by_test : (t : Bool) → any_below dir (xs ++ ys) ≡ (any_below dir xs || any_below dir ys)
        → (t || any_below dir (xs ++ ys)) ≡ ((t || any_below dir xs) || any_below dir ys)
    by_test true more = refl
    by_test false more = more

pub put_after : (o : Option (List ℕ)) (xs ys : List (List ℕ)) → cons_option o (xs ++ ys) ≡ cons_option o xs ++ ys
put_after None xs ys = refl
put_after (Some n) xs ys = refl

pub names_after : (dir : Atoms) (xs ys : List FileInput) → taken_names dir (xs ++ ys) ≡ taken_names dir xs ++ taken_names dir ys
names_after dir [] ys = refl
names_after dir (x ∷ xs) ys =
    ap (cons_option (next_atom dir (input_path x))) (names_after dir xs ys)
    ∙ put_after (next_atom dir (input_path x)) (taken_names dir xs) (taken_names dir ys)

-- ## One directory after another

abbrev left_from : List Pip → List DirInput → ℕ → List FileInput
left_from pips dirs i = dirs_files pips (drop i dirs)

pub next_dir : (pips : List Pip) (dirs : List DirInput) (i : ℕ) (dir : DirInput) → i < length dirs → dir ≡ get_or dirs i dir
    → dirs_files pips (drop i dirs) ≡ dir_files pips dir ++ dirs_files pips (drop (i + 1) dirs)
next_dir pips dirs i dir l is =
    ap (dirs_files pips) (drop-cons dirs i dir l)
    ∙ ap (λ (d : DirInput). dirs_files pips (d ∷ drop (suc i) dirs)) (sym is)
    ∙ ap (λ m. dir_files pips dir ++ dirs_files pips (drop m dirs)) (sym (add-one i))

-- the first of the directories that lists a file at a path
pub dir_found : (pips : List Pip) (path : Atoms) (dirs : List DirInput) (i : ℕ) (dir : DirInput) (file : FileInput) (whole : Option FileInput)
    → i < length dirs → dir ≡ get_or dirs i dir → first_at path (dir_files pips dir) ≡ Some file
    → first_at path (dirs_files pips (drop i dirs)) ≡ whole → Some file ≡ whole
dir_found pips path dirs i dir file whole l is found so_far =
    sym (ap (first_at path) (next_dir pips dirs i dir l is)
    ∙ first_after path (dir_files pips dir) (dirs_files pips (drop (i + 1) dirs))
    ∙ ap (λ o. or_first o (first_at path (dirs_files pips (drop (i + 1) dirs)))) found)
    ∙ so_far

pub dir_passed : (pips : List Pip) (path : Atoms) (dirs : List DirInput) (i : ℕ) (dir : DirInput) (whole : Option FileInput)
    → i < length dirs → dir ≡ get_or dirs i dir → first_at path (dir_files pips dir) ≡ None
    → first_at path (dirs_files pips (drop i dirs)) ≡ whole → first_at path (dirs_files pips (drop (i + 1) dirs)) ≡ whole
dir_passed pips path dirs i dir whole l is none so_far =
    sym (ap (first_at path) (next_dir pips dirs i dir l is)
    ∙ first_after path (dir_files pips dir) (dirs_files pips (drop (i + 1) dirs))
    ∙ ap (λ o. or_first o (first_at path (dirs_files pips (drop (i + 1) dirs)))) none)
    ∙ so_far

pub no_dir_left : (pips : List Pip) (path : Atoms) (dirs : List DirInput) (i : ℕ) (whole : Option FileInput) → length dirs ≤ i
    → first_at path (dirs_files pips (drop i dirs)) ≡ whole → None ≡ whole
no_dir_left pips path dirs i whole l so_far = sym (ap (λ ds. first_at path (dirs_files pips ds)) (drop_all i dirs l)) ∙ so_far

-- the first of the directories that lists a file below a directory
pub below_next : (pips : List Pip) (below : Atoms) (dirs : List DirInput) (i : ℕ) (dir : DirInput) (t whole : Bool)
    → i < length dirs → dir ≡ get_or dirs i dir → any_below below (dir_files pips dir) ≡ t
    → any_below below (dirs_files pips (drop i dirs)) ≡ whole → (t || any_below below (dirs_files pips (drop (i + 1) dirs))) ≡ whole
below_next pips below dirs i dir t whole l is e so_far =
    sym (ap (any_below below) (next_dir pips dirs i dir l is)
    ∙ below_after below (dir_files pips dir) (dirs_files pips (drop (i + 1) dirs))
    ∙ ap (λ b. b || any_below below (dirs_files pips (drop (i + 1) dirs))) e)
    ∙ so_far

pub no_below_left : (pips : List Pip) (below : Atoms) (dirs : List DirInput) (i : ℕ) (whole : Bool) → length dirs ≤ i
    → any_below below (dirs_files pips (drop i dirs)) ≡ whole → false ≡ whole
no_below_left pips below dirs i whole l so_far = sym (ap (λ ds. any_below below (dirs_files pips ds)) (drop_all i dirs l)) ∙ so_far

-- the names of one directory more
pub names_next : (pips : List Pip) (below : Atoms) (dirs : List DirInput) (i : ℕ) (dir : DirInput) (names new whole : List (List ℕ))
    → i < length dirs → dir ≡ get_or dirs i dir → new ≡ names ++ taken_names below (dir_files pips dir)
    → names ++ taken_names below (dirs_files pips (drop i dirs)) ≡ whole → new ++ taken_names below (dirs_files pips (drop (i + 1) dirs)) ≡ whole
names_next pips below dirs i dir names new whole l is e so_far =
    ap (λ ns. ns ++ taken_names below (dirs_files pips (drop (i + 1) dirs))) e
    ∙ append_assoc names (taken_names below (dir_files pips dir)) (taken_names below (dirs_files pips (drop (i + 1) dirs)))
    ∙ ap (λ ns. names ++ ns)
    (sym (ap (taken_names below) (next_dir pips dirs i dir l is) ∙ names_after below (dir_files pips dir) (dirs_files pips (drop (i + 1) dirs))))
    ∙ so_far

pub no_names_left : (pips : List Pip) (below : Atoms) (dirs : List DirInput) (i : ℕ) (names whole : List (List ℕ)) → length dirs ≤ i
    → names ++ taken_names below (dirs_files pips (drop i dirs)) ≡ whole → names ≡ whole
no_names_left pips below dirs i names whole l so_far =
    sym (append-nil names) ∙ ap (λ ds. names ++ taken_names below (dirs_files pips ds)) (sym (drop_all i dirs l)) ∙ so_far

-- the names of all lists, one after another
pub three_names : (dir : Atoms) (first : FileInput) (files listed : List FileInput) (none one two three : List (List ℕ))
    → one ≡ none ++ taken_names dir (first ∷ []) → two ≡ one ++ taken_names dir files → three ≡ two ++ taken_names dir listed
    → three ≡ none ++ taken_names dir (first ∷ files ++ listed)
three_names dir first files listed none one two three a b c =
    c ∙ ap (λ ns. ns ++ taken_names dir listed) (b ∙ ap (λ ns. ns ++ taken_names dir files) a)
    ∙ append_assoc (none ++ taken_names dir (first ∷ [])) (taken_names dir files) (taken_names dir listed)
    ∙ append_assoc none (taken_names dir (first ∷ [])) (taken_names dir files ++ taken_names dir listed)
    ∙ ap (λ ns. none ++ ns)
    (ap (λ ns. taken_names dir (first ∷ []) ++ ns) (sym (names_after dir files listed)) ∙ sym (names_after dir (first ∷ []) (files ++ listed)))
