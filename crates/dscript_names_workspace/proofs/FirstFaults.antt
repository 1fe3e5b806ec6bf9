-- The first fault of module files, one file further.
use mathlib.Core.Path.{fun_ext}
use Rattle.std.proofs.Common.{◌≡◌, ◌<◌, ◌+◌, ℕ, suc, Bool, true, false, List, [], ◌∷◌, ◌++◌, Some, None, length, take, drop, get_or, refl, ap, sym, ◌∙◌, arith}
use Rattle.std.specs.Prelude.{◌||◌}
use Rattle.std.specs.List.{list_any}
use Rattle.std.proofs.Math.Seq.{drop-cons, take-suc}
use Rattle.std.proofs.lemmas.List.{map-append}
use Rattle.std.proofs.lemmas.List.Folds.{list_any-append}
use Rattle.bx_tree.specs.Paths.{Atoms}
use Rattle.dscript_program.specs.SpecFaults.{FaultData}
use Rattle.dscript_names_workspace.specs.declared.module_file.ModuleFile as memory
use Rattle.dscript_names_workspace.specs.ModuleFiles.{file_data, files_data}
use Rattle.dscript_names_workspace.specs.Workspaces.{ModuleFile, file_fault, has_file, implies_file, is_taken, module_file_fault, option_or}

prefix-more : (all : List memory.ModuleFile) (i : ℕ) (m : memory.ModuleFile) → i < length all → m ≡ get_or all i m
    → files_data (take (i + 1) all) ≡ files_data (take i all) ++ file_data m ∷ []
prefix-more all i m l is =
    ap (λ n. files_data (take n all)) (let n : i + 1 ≡ suc i = omega arith in n)
    ∙ ap files_data (take-suc all i m l) ∙ map-append file_data (take i all) (get_or all i m ∷ [])
    ∙ ap (λ (f : memory.ModuleFile). files_data (take i all) ++ file_data f ∷ []) (sym is)

rest-less : (all : List memory.ModuleFile) (i : ℕ) (m : memory.ModuleFile) → i < length all → m ≡ get_or all i m
    → files_data (drop i all) ≡ file_data m ∷ files_data (drop (i + 1) all)
rest-less all i m l is =
    ap files_data (drop-cons all i m l)
    ∙ ap (λ (f : memory.ModuleFile). file_data f ∷ files_data (drop (suc i) all)) (sym is)
    ∙ ap (λ n. file_data m ∷ files_data (drop n all)) (let n : suc i ≡ i + 1 = omega arith in n)

-- one more module has its files
swapped : (a b c : Bool) → ((a || b) || c) ≡ ((a || (c || false)) || b)
swapped true b c = refl
swapped false true true = refl
swapped false true false = refl
swapped false false true = refl
swapped false false false = refl

pub taken_more : (all : List memory.ModuleFile) (i : ℕ) (m : memory.ModuleFile) (path : Atoms) (old new : Bool)
    → i < length all → m ≡ get_or all i m → new ≡ (old || has_file path (file_data m))
    → old ≡ is_taken (files_data all) (files_data (take i all)) path
    → new ≡ is_taken (files_data all) (files_data (take (i + 1) all)) path
taken_more all i m path old new l is e f =
    let before = files_data (take i all) in
    e ∙ ap (λ b. b || has_file path (file_data m)) f
    ∙ swapped (list_any (has_file path) before) (list_any (implies_file path) (files_data all)) (has_file path (file_data m))
    ∙ ap (λ b. b || list_any (implies_file path) (files_data all)) (sym (list_any-append (has_file path) before (file_data m ∷ [])))
    ∙ ap (λ ms. is_taken (files_data all) ms path) (sym (prefix-more all i m l is))

same_fault : (taken other : Atoms → Bool) (m : ModuleFile) → ((path : Atoms) → taken path ≡ other path)
    → module_file_fault taken m ≡ module_file_fault other m
same_fault taken other m same = ap (λ (t : Atoms → Bool). module_file_fault t m) (fun_ext same)

-- the first fault is that of a module file, if those before it have none
pub fault_here : (all : List memory.ModuleFile) (i : ℕ) (m : memory.ModuleFile) (taken : Atoms → Bool) (fault : FaultData)
    → i < length all → m ≡ get_or all i m
    → ((path : Atoms) → taken path ≡ is_taken (files_data all) (files_data (take i all)) path)
    → Some fault ≡ module_file_fault taken (file_data m)
    → Some fault ≡ file_fault (files_data all) (files_data (take i all)) (files_data (drop i all))
fault_here all i m taken fault l is same e =
    let before = files_data (take i all) in
    let later = file_fault (files_data all) (before ++ file_data m ∷ []) (files_data (drop (i + 1) all)) in
    ap (λ o. option_or o later) (e ∙ same_fault taken (is_taken (files_data all) before) (file_data m) same)
    ∙ ap (file_fault (files_data all) before) (sym (rest-less all i m l is))

-- a module file without a fault leaves the first fault to the rest
pub fault_later : (all : List memory.ModuleFile) (i : ℕ) (m : memory.ModuleFile) (taken : Atoms → Bool)
    → i < length all → m ≡ get_or all i m
    → ((path : Atoms) → taken path ≡ is_taken (files_data all) (files_data (take i all)) path)
    → None ≡ module_file_fault taken (file_data m)
    → file_fault (files_data all) (files_data (take (i + 1) all)) (files_data (drop (i + 1) all))
    ≡ file_fault (files_data all) (files_data (take i all)) (files_data (drop i all))
fault_later all i m taken l is same e =
    let before = files_data (take i all) in
    let later = file_fault (files_data all) (before ++ file_data m ∷ []) (files_data (drop (i + 1) all)) in
    ap (λ ms. file_fault (files_data all) ms (files_data (drop (i + 1) all))) (prefix-more all i m l is)
    ∙ ap (λ o. option_or o later) (e ∙ same_fault taken (is_taken (files_data all) before) (file_data m) same)
    ∙ ap (file_fault (files_data all) before) (sym (rest-less all i m l is))
