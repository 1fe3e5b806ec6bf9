-- What is counted in a program is at most the bytes of its files.
use Rattle.std.proofs.Common.{◌≡◌, ℕ, ◌+◌, ◌≤◌, List, [], ◌∷◌, length, map, Option, Some, None, Result, Ok, Err, subst, arith}
use Rattle.std.specs.Bool.{⊤}
use Rattle.std.specs.List.{AllByRecursion, flat_map}
use Rattle.std.proofs.lemmas.List.{length-append}
use Rattle.bx_tree.specs.Paths.{Atoms}
use Rattle.bx_tree.specs.Trees.{Files}
use Rattle.dscript_ast.specs.FileTree as file
use Rattle.dscript_ast.specs.FileTree.{FileTree}
use Rattle.dscript_names_binding.specs.Binding.{bind_items}
use Rattle.dscript_names_binding.specs.Walk.{Bound}
use Rattle.dscript_program.specs.SpecFaults.{FaultData}
use Rattle.dscript_program.specs.Workspaces.{ModuleData}
use Rattle.dscript_program.specs.declared.spec_fault.SpecKind.{SpecKind}
use Rattle.dscript_names.specs.Named.{before_others, bind_files, file_first, named, unless_duplicate}
use Rattle.dscript_program.specs.ProgramData.{DeclData, FileData, ProgramData}
use Rattle.dscript_names_scopes.specs.Declarations.{ParsedData, item_declared, items_of, names_of, world_of}
use Rattle.dscript_names_scopes.specs.Duplicates.{first_duplicate}
use Rattle.dscript_names_scopes.specs.Names.{FileNames, World}
use Rattle.dscript_names.specs.Counted.{CountedWithin, ProgramWithin}
use Rattle.dscript_names.specs.Sizes.{items_size}
use Rattle.dscript_names.specs.Texts.{AreProjects, IsProject}
use Rattle.dscript_names.proofs.Bounded.{kinds_within}
use Rattle.dscript_names.proofs.Declared.{items_declare}
use Rattle.dscript_names.proofs.Steps.{all_below_append, all_below_more}
use Rattle.dscript_names.proofs.TakesFiles.{size_within}
use Rattle.dscript_names.proofs.WalksFiles.{FiledIfOk, filed_if, items_filed}

-- the bytes of all files
abbrev pub bytes_of : Files → ℕ
bytes_of [] = 0
bytes_of (f ∷ fs) = length f.1 + bytes_of fs

-- the size of a project file is at most its bytes
project_within : (text : List ℕ) (tree : FileTree) → IsProject text tree → items_size (items_of tree) ≤ length text
project_within text (file.Project items) is =
    let size : items_size items ≤ length (map (λ t. t.kind) is.0) =
    size_within (map (λ t. t.kind) is.0) items is.2 is.3.derived in
    omega (arith, size, kinds_within text is.0 is.1)
project_within text (file.Config e) is = omega arith
project_within text (file.Module e) is = omega arith

-- ## Programs

abbrev ProgramIfOk : ℕ → Result ProgramData FaultData → Type 0
ProgramIfOk n (Ok p) = ProgramWithin n p
ProgramIfOk n (Err fault) = ⊤

decls_more : (m n : ℕ) (fs : List FileData) → m ≤ n → AllByRecursion (λ f. length f.decls ≤ m) fs
    → AllByRecursion (λ f. length f.decls ≤ n) fs
decls_more m n [] le h = tt
decls_more m n (f ∷ fs) le h =
    let first : length f.decls ≤ m = h.0 in (omega (arith, le, first), decls_more m n fs le h.1)

pub program_more : (m n : ℕ) (p : ProgramData) → m ≤ n → ProgramWithin m p → ProgramWithin n p
program_more m n p le h =
    let functions : length p.functions ≤ m = h.functions in
    record {
      decls = decls_more m n p.files le h.decls;
      functions = omega (arith, functions, le);
      locals = all_below_more m n p.functions le h.locals;
    }

before_within : (m k : ℕ) (path : Atoms) (names : FileNames) (b : Bound (List DeclData)) (r : Result ProgramData FaultData)
    → CountedWithin m b → ProgramIfOk k r → ProgramIfOk (m + k) (before_others path names b r)
before_within m k path names b (Err fault) first second = tt
before_within m k path names b (Ok p) first second =
    let left : m ≤ m + k = omega arith in
    let right : k ≤ m + k = omega arith in
    let own : length b.value ≤ m = first.decls in
    let some : length b.functions ≤ m = first.functions in
    let others : length p.functions ≤ k = second.functions in
    record {
      decls = (omega (arith, own, left), decls_more k (m + k) p.files right second.decls);
      functions = omega (arith, some, others, length-append b.functions p.functions);
      locals = all_below_append (m + k) b.functions p.functions
          (all_below_more m (m + k) b.functions left first.locals)
          (all_below_more k (m + k) p.functions right second.locals);
    }

file_within : (m k : ℕ) (path : Atoms) (names : FileNames) (r : Result (Bound (List DeclData)) SpecKind)
    (others : ℕ → Result ProgramData FaultData) → FiledIfOk m r → ((n : ℕ) → ProgramIfOk k (others n))
    → ProgramIfOk (m + k) (file_first path names r others)
file_within m k path names (Err kind) others first second = tt
file_within m k path names (Ok b) others first second =
    before_within m k path names b (others b.after.functions) first (second b.after.functions)

files_within : (modules : List ModuleData) (world : World) (files : Files) (ps : List ParsedData) (n functions : ℕ)
    → AreProjects files ps → ProgramIfOk (bytes_of files) (bind_files modules world n ps functions)
files_within modules world [] [] n functions are = record { decls = tt; functions = omega arith; locals = tt }
files_within modules world [] (p ∷ ps) n functions are = absurd are
files_within modules world (f ∷ fs) [] n functions are = absurd are
files_within modules world (f ∷ fs) (p ∷ ps) n functions are =
    let items = items_of p.file in
    let walk = bind_items world n (names_of modules p) items (record { blocks = []; locals = 0; functions = functions }) in
    file_within (length f.1) (bytes_of fs) p.path (names_of modules p) walk (bind_files modules world (n + 1) ps)
    (filed_if (items_size items) (length f.1) walk (project_within f.1 p.file are.0)
    ((items_filed world n (names_of modules p) items).good (record { blocks = []; locals = 0; functions = functions })))
    (λ k. files_within modules world fs ps (n + 1) k are.1)

unless_within : (n : ℕ) (duplicate : Option Atoms) (r : Result ProgramData FaultData) → ProgramIfOk n r
    → ProgramIfOk n (unless_duplicate duplicate r)
unless_within n None r h = h
unless_within n (Some path) r h = tt

named_within : (modules : List ModuleData) (files : Files) (ps : List ParsedData) → AreProjects files ps
    → ProgramIfOk (bytes_of files) (named modules ps)
unfolding named
named_within modules files ps are =
    unless_within (bytes_of files) (first_duplicate modules [] ps) (bind_files modules (world_of modules ps) 0 ps 0)
    (files_within modules (world_of modules ps) files ps 0 0 are)

pub program_within : (modules : List ModuleData) (files : Files) (ps : List ParsedData) (p : ProgramData) → AreProjects files ps
    → named modules ps ≡ Ok p → ProgramWithin (bytes_of files) p
program_within modules files ps p are is = subst (ProgramIfOk (bytes_of files)) is (named_within modules files ps are)

-- ## Names

pub names_within : (modules : List ModuleData) (files : Files) (ps : List ParsedData) (n : ℕ) → AreProjects files ps
    → bytes_of files ≤ n → AllByRecursion (λ f. length f.decls ≤ n) (map (names_of modules) ps)
names_within modules [] [] n are le = tt
names_within modules [] (p ∷ ps) n are le = absurd are
names_within modules (f ∷ fs) [] n are le = absurd are
names_within modules (f ∷ fs) (p ∷ ps) n are le =
    let size : items_size (items_of p.file) ≤ length f.1 = project_within f.1 p.file are.0 in
    let declared : length (flat_map item_declared (items_of p.file)) ≤ items_size (items_of p.file) =
    items_declare (items_of p.file) in
    let rest : bytes_of fs ≤ n = omega (arith, le) in
    (omega (arith, size, declared, le), names_within modules fs ps n are.1 rest)
