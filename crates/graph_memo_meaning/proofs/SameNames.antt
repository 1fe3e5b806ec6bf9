-- What a program is does not depend on where its modules are described.
use Rattle.std.proofs.Common.{◌≡◌, ℕ, ◌+◌, cond, not, List, [], ◌∷◌, ◌++◌, map, Some, Result, Ok, Err, refl, sym, ap, ◌∙◌}
use Rattle.std.specs.List.{list_any, position_or_len}
use Rattle.bx_tree.specs.Paths.{Atoms, same_path}
use Rattle.dscript_names.specs.Named.{before_others, bind_files, file_first, named, unless_duplicate}
use Rattle.dscript_names_binding.specs.Binding.{bind_items}
use Rattle.dscript_names_binding.specs.Walk.{Bound}
use Rattle.dscript_names_scopes.specs.Declarations.{ParsedData, items_of, module_of, names_of, world_of}
use Rattle.dscript_names_scopes.specs.Duplicates.{first_duplicate, has_duplicate}
use Rattle.dscript_names_scopes.specs.Names.{FileNames, World}
use Rattle.dscript_program.specs.ProgramData.{DeclData}
use Rattle.dscript_program.specs.Workspaces.{ModuleData}
use Rattle.dscript_program.specs.declared.spec_fault.SpecKind.{SpecKind}

-- the number of the first list that has a path
abbrev place : List (List Atoms) → Atoms → ℕ
place lists path = position_or_len (λ files. list_any (same_path path) files) lists

abbrev files_of : List ModuleData → List (List Atoms)
files_of modules = map (λ (m : ModuleData). m.files) modules

module_place : (modules : List ModuleData) (path : Atoms) → module_of modules path ≡ place (files_of modules) path
module_place [] path = refl
module_place (m ∷ ms) path =
    ap (λ n. cond (not (list_any (same_path path) m.files)) (1 + n) 0) (module_place ms path)

same_module : (m n : List ModuleData) → map (λ (a : ModuleData). a.files) m ≡ map (λ (a : ModuleData). a.files) n
    → (path : Atoms) → module_of m path ≡ module_of n path
same_module m n e path = module_place m path ∙ ap (λ lists. place lists path) e ∙ sym (module_place n path)

module _ (m n : List ModuleData) (same : (path : Atoms) → module_of m path ≡ module_of n path) where
  abbrev numbered : ℕ → FileNames → FileNames
  numbered number names = record names { module_number = number }

  names_same : (p : ParsedData) → names_of m p ≡ names_of n p
  names_same p = ap (λ number. numbered number (names_of m p)) (same p.path)

  all_names : (ps : List ParsedData) → map (names_of m) ps ≡ map (names_of n) ps
  all_names [] = refl
  all_names (p ∷ ps) = ap (λ x. x ∷ map (names_of m) ps) (names_same p) ∙ ap (λ xs. names_of n p ∷ xs) (all_names ps)

  duplicate_same : (earlier : List FileNames) (ps : List ParsedData) → first_duplicate m earlier ps ≡ first_duplicate n earlier ps
  duplicate_same earlier [] = refl
  duplicate_same earlier (p ∷ ps) =
      ap (λ x. cond (has_duplicate earlier x (items_of p.file)) (Some p.path) (first_duplicate m (earlier ++ x ∷ []) ps))
      (names_same p)
      ∙ ap (λ o. cond (has_duplicate earlier (names_of n p) (items_of p.file)) (Some p.path) o)
      (duplicate_same (earlier ++ names_of n p ∷ []) ps)

  files_same : (world : World) (k : ℕ) (ps : List ParsedData) (functions : ℕ)
      → bind_files m world k ps functions ≡ bind_files n world k ps functions
  files_same world k [] functions = refl
  files_same world k (p ∷ ps) functions =
      ap (λ x. file_first p.path x
      (bind_items world k x (items_of p.file) (record { blocks = []; locals = 0; functions = functions }))
      (bind_files m world (k + 1) ps)) (names_same p)
      ∙ by_bound (bind_items world k (names_of n p) (items_of p.file)
      (record { blocks = []; locals = 0; functions = functions })) (λ f. files_same world (k + 1) ps f)
    where
      by_bound : (b : Result (Bound (List DeclData)) SpecKind) → ((f : ℕ) → bind_files m world (k + 1) ps f ≡ bind_files n world (k + 1) ps f)
          → file_first p.path (names_of n p) b (bind_files m world (k + 1) ps)
          ≡ file_first p.path (names_of n p) b (bind_files n world (k + 1) ps)
      by_bound (Ok b) rest = ap (before_others p.path (names_of n p) b) (rest b.after.functions)
      by_bound (Err kind) rest = refl

abbrev world_with : List (List ℕ) → List FileNames → World
world_with modules files = record { modules = modules; files = files }

pub same_named : (m n : List ModuleData) (ps : List ParsedData)
    → map (λ (a : ModuleData). a.name) m ≡ map (λ (a : ModuleData). a.name) n
    → map (λ (a : ModuleData). a.files) m ≡ map (λ (a : ModuleData). a.files) n → named m ps ≡ named n ps
unfolding named
same_named m n ps names files =
    let same = same_module m n files in
    let world : world_of m ps ≡ world_of n ps =
    ap (λ (x : List (List ℕ)). world_with x (map (names_of m) ps)) names
    ∙ ap (world_with (map (λ (a : ModuleData). a.name) n)) (all_names m n same ps) in
    ap (λ o. unless_duplicate o (bind_files m (world_of m ps) 0 ps 0)) (duplicate_same m n same [] ps)
    ∙ ap (λ w. unless_duplicate (first_duplicate n [] ps) (bind_files m w 0 ps 0)) world
    ∙ ap (λ p. unless_duplicate (first_duplicate n [] ps) p) (files_same m n same (world_of n ps) 0 ps 0)
