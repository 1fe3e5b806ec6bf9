-- The project files of a workspace, found by a search and read one by one.
use Rattle.std.proofs.Common.{◌≡◌, ℕ, ◌+◌, ◌<◌, ◌≤◌, ◌++◌, append_assoc, zero, suc, Bool, false, cond, List, [], ◌∷◌, filter, length, get_or, drop, refl, ap, sym, subst, ◌∙◌, inl, inr, arith, Result, Ok, Err}
use Rattle.std.specs.Borrow.{Bor}
use Rattle.std.specs.List.{AllByRecursion}
use Rattle.std.specs.List.Sorted.{IsBinarySearchResult, IsPermutation, IsSearchInRange, IsSorted}
use Rattle.std.specs.Result.{is_ok}
use Rattle.std.specs.declared.cmp.Ordering.{Ordering}
use Rattle.std.specs.declared.cmp.Ordering.TheVariants.{Less, Equal, Greater}
use Rattle.std.proofs.Math.Seq.{drop-cons}
use Rattle.std.proofs.lemmas.Bool.{cases_lt, cases_Bool}
use Rattle.std.proofs.lemmas.Cmp.{tied_itself}
use Rattle.std.proofs.lemmas.List.{append-nil, drop_all, map-append}
use Rattle.std.proofs.lemmas.List.Folds.{list_any_at, list_any_none}
use Rattle.std.proofs.lemmas.List.Sorted.{list_any-IsPermutation, searchable_from_sorted}
use Rattle.bx_tree.specs.Orders.{equal_paths, path_cmp_total, same_path_decides}
use Rattle.bx_tree.specs.Paths.{Atoms, has_path, path_cmp, same_path}
use Rattle.bx_tree.specs.Trees.{Files}
use Rattle.bx_tree.specs.Views.{file_of}
use Rattle.bx_tree.specs.declared.tree_file.TreeFile.{TreeFile}
use Rattle.dscript_program.specs.declared.spec_fault.SpecFault.{SpecFault}
use Rattle.dscript_program.specs.declared.spec_fault.SpecFault.TheVariants as spec_faults
use Rattle.dscript_program.specs.SpecFaults.{FaultData}
use Rattle.dscript_program.specs.Workspaces.{ModuleData}
use Rattle.dscript_names.specs.Views.{parsed_data}
use Rattle.dscript_names.specs.declared.parsed.Parsed.{Parsed}
use Rattle.dscript_names_scopes.specs.Declarations.{ParsedData}
use Rattle.bx_engine_front.specs.FileFaults.{RefusesFile, RefusesFiles}
use Rattle.dscript_names.specs.ProjectFiles.{AreParsed, IsParsed, all_parsed, files_among, is_among, paths_of_modules, project_files}
use Rattle.bx_engine_front.specs.Projects.{IsFirstProjectFault, IsShort, lent_files}

-- ## Reading one by one

-- of these files all but the rest were read, with these syntax trees
pub record ReadSoFar (files rest : Files) (parsed : List ParsedData) : Type 0 where
  pub first : (fault : FaultData) → IsFirstProjectFault rest fault → IsFirstProjectFault files fault
  pub all : (more : List ParsedData) → AreParsed rest more → AreParsed files (parsed ++ more)

pub none_read : (files : Files) (parsed : List ParsedData) → parsed ≡ [] → ReadSoFar files files parsed
none_read files parsed none = record {
  first = λ fault h. h;
  all = λ more h. subst (AreParsed files) (ap (λ (ps : List ParsedData). ps ++ more) (sym none)) h;
}

one_more_read : (files rest : Files) (file : Atoms × List ℕ) (parsed next : List ParsedData) (p : ParsedData)
    → ReadSoFar files (file ∷ rest) parsed → IsParsed file p → next ≡ parsed ++ p ∷ [] → ReadSoFar files rest next
one_more_read files rest file parsed next p h is pushed = record {
  first = λ fault k. h.first fault (inr ((p.file, is.tree), k));
  all = λ more k.
      subst (AreParsed files)
      (sym (ap (λ (ps : List ParsedData). ps ++ more) pushed ∙ append_assoc parsed (p ∷ []) more))
      (h.all (p ∷ more) (is, k));
}

-- ## Files in memory

-- the rest of the files from a place on, and the file there
rest_from : (files : List (Bor TreeFile)) (i : ℕ) (x : Bor TreeFile) → i < length files → x ≡ get_or files i x
    → lent_files (drop i files) ≡ file_of x.now ∷ lent_files (drop (i + 1) files)
rest_from files i x l is =
    ap lent_files (drop-cons files i x l)
    ∙ ap (λ (y : Bor TreeFile). file_of y.now ∷ lent_files (drop (suc i) files)) (sym is)
    ∙ ap (λ n. file_of x.now ∷ lent_files (drop n files)) (let n : suc i ≡ i + 1 = omega arith in n)

pub more_read : (files : List (Bor TreeFile)) (i : ℕ) (x : Bor TreeFile) (old new : List Parsed) (p : Parsed)
    → i < length files → x ≡ get_or files i x
    → ReadSoFar (lent_files files) (lent_files (drop i files)) (all_parsed old)
    → IsParsed (file_of x.now) (parsed_data p) → new ≡ old ++ p ∷ []
    → ReadSoFar (lent_files files) (lent_files (drop (i + 1) files)) (all_parsed new)
more_read files i x old new p l is h parsed pushed =
    one_more_read (lent_files files) (lent_files (drop (i + 1) files)) (file_of x.now) (all_parsed old) (all_parsed new)
    (parsed_data p)
    (subst (λ (rest : Files). ReadSoFar (lent_files files) rest (all_parsed old)) (rest_from files i x l is) h) parsed
    (ap all_parsed pushed ∙ map-append parsed_data old (p ∷ []))

pub all_read : (files : List (Bor TreeFile)) (i : ℕ) (parsed : List Parsed) → length files ≤ i
    → ReadSoFar (lent_files files) (lent_files (drop i files)) (all_parsed parsed)
    → AreParsed (lent_files files) (all_parsed parsed)
all_read files i parsed end h =
    subst (AreParsed (lent_files files)) (append-nil (all_parsed parsed))
    (h.all [] (subst (λ (rest : List (Bor TreeFile)). AreParsed (lent_files rest) []) (sym (drop_all i files end)) tt))

-- a fault of the next file is the first
refused_next : (files rest : Files) (file : Atoms × List ℕ) (parsed : List ParsedData) (fault : SpecFault)
    → ReadSoFar files (file ∷ rest) parsed → RefusesFile file fault → RefusesFiles files fault
refused_next files rest file parsed (spec_faults.Fault kind path place) h k =
    h.first (record { kind = kind; file = path; place = place }) (inl k)
refused_next files rest file parsed spec_faults.Memory h k = k

pub refused_here : (files : List (Bor TreeFile)) (i : ℕ) (x : Bor TreeFile) (parsed : List Parsed) (fault : SpecFault)
    → i < length files → x ≡ get_or files i x
    → ReadSoFar (lent_files files) (lent_files (drop i files)) (all_parsed parsed) → RefusesFile (file_of x.now) fault
    → RefusesFiles (lent_files files) fault
refused_here files i x parsed fault l is h k =
    refused_next (lent_files files) (lent_files (drop (i + 1) files)) (file_of x.now) (all_parsed parsed) fault
    (subst (λ (rest : Files). ReadSoFar (lent_files files) rest (all_parsed parsed)) (rest_from files i x l is) h) k

-- each of short files is short
pub each_short : (files : List (Bor TreeFile)) (i : ℕ) (x : Bor TreeFile) → AllByRecursion IsShort (lent_files files)
    → i < length files → x ≡ get_or files i x → IsShort (file_of x.now)
each_short [] i x h l is = absurd (omega (arith, l))
each_short (y ∷ ys) zero x h l is = subst (λ (z : Bor TreeFile). IsShort (file_of z.now)) (sym is) h.0
each_short (y ∷ ys) (suc i) x h l is = each_short ys i x h.1 (omega (arith, l)) is

-- ## A search

apart : (p q : Atoms) → (path_cmp q p ≡ Equal → ⊥) → same_path q p ≡ false
apart p q n = elim (cases_Bool (same_path q p)) [
  | inl e ↦ absurd (n (subst (λ r. path_cmp r p ≡ Equal) (sym ((same_path_decides q p).0 e)) (tied_itself path_cmp_total p)))
  | inr e ↦ e
]

-- a binary search among sorted paths is sound and complete
pub search_answers : (paths : List Atoms) (p : Atoms) (r : Result ℕ ℕ) → IsSorted path_cmp paths
    → IsSearchInRange r (length paths) → IsBinarySearchResult (λ q. path_cmp q p) paths r → is_ok r ≡ has_path paths p
search_answers paths p (Ok i) up l h =
    sym (list_any_at (λ q. same_path q p) paths i [] l
    ((same_path_decides (get_or paths i []) p).1 (equal_paths (get_or paths i []) p (h []))))
search_answers paths p (Err i) up l h =
    let parts = h (searchable_from_sorted path_cmp_total (λ q. q) paths p up) in
    sym (list_any_none (λ q. same_path q p) paths (λ k d in'. elim (cases_lt k i) [
      | inl low ↦ apart p (get_or paths k d) (λ e. less_or_equal (parts.0 k d (omega arith) low) e)
      | inr high ↦ apart p (get_or paths k d) (λ e. greater_or_equal (parts.1 k d high in') e)
    ]))
  where
    less_or_equal : {o : Ordering} → o ≡ Less → o ≡ Equal → ⊥
    less_or_equal a b = cc

    greater_or_equal : {o : Ordering} → o ≡ Greater → o ≡ Equal → ⊥
    greater_or_equal a b = cc

-- ## A sort

filter_same : {X : Type 0} (p q : X → Bool) → ((x : X) → p x ≡ q x) → (xs : List X) → filter p xs ≡ filter q xs
filter_same p q e [] = refl
filter_same p q e (x ∷ xs) =
    ap (λ b. cond b (x ∷ filter p xs) (filter p xs)) (e x) ∙ ap (λ ys. cond (q x) (x ∷ ys) ys) (filter_same p q e xs)

-- the files at paths do not depend on the order of the paths
in_any_order : (paths sorted : List Atoms) (sources : Files) → IsPermutation paths sorted
    → files_among sorted sources ≡ files_among paths sources
in_any_order paths sorted sources moved =
    filter_same (is_among sorted) (is_among paths)
    (λ file. sym (list_any-IsPermutation (λ q. same_path q file.0) paths sorted moved)) sources

-- the files of all modules, as a search among sorted paths finds them
pub found_projects : (sources seen found : Files) (modules : List ModuleData) (paths sorted slice : List Atoms)
    → found ≡ files_among slice seen → seen ≡ sources → slice ≡ sorted → IsPermutation paths sorted
    → paths ≡ paths_of_modules modules → found ≡ project_files sources modules
found_projects sources seen found modules paths sorted slice is from to moved all =
    is ∙ ap (λ (fs : Files). files_among slice fs) from ∙ ap (λ (ps : List Atoms). files_among ps sources) to
    ∙ in_any_order paths sorted sources moved ∙ ap (λ (ps : List Atoms). files_among ps sources) all
