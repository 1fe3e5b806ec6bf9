-- What a walk through a file has counted, and what is counted in a program.
use Rattle.std.specs.Prelude.{ℕ, ◌+◌, ◌≤◌, List, length}
use Rattle.std.specs.List.{AllByRecursion}
use Rattle.dscript_names_binding.specs.Walk.{Bound}
use Rattle.dscript_program.specs.ProgramData.{DeclData, FunctionData, ProgramData}
use Rattle.dscript_names_scopes.specs.Names.{World}

-- the numbers of the function's parameters and of its other locals are below this one
abbrev pub IsNumberedBelow : ℕ → FunctionData → Type 0
IsNumberedBelow n f = (f.first_local + length f.params ≤ n) × (f.first_local + f.local_count ≤ n)

-- at most this many declarations and functions, with locals that are numbered below it
pub record CountedWithin (n : ℕ) (b : Bound (List DeclData)) : Type 0 where
  pub decls : length b.value ≤ n
  pub functions : length b.functions ≤ n
  pub locals : AllByRecursion (IsNumberedBelow n) b.functions

-- at most this many declarations in each file, and functions in all files, with locals that are numbered
-- below it
pub record ProgramWithin (n : ℕ) (p : ProgramData) : Type 0 where
  pub decls : AllByRecursion (λ f. length f.decls ≤ n) p.files
  pub functions : length p.functions ≤ n
  pub locals : AllByRecursion (IsNumberedBelow n) p.functions

-- at most this many files, and names that each declares; each file is of one of the modules, or counts as one
-- of a module after the last
pub record WorldWithin (files decls : ℕ) (w : World) : Type 0 where
  pub few_files : length w.files ≤ files
  pub few_decls : AllByRecursion (λ f. length f.decls ≤ decls) w.files
  pub owners : AllByRecursion (λ f. f.module_number ≤ length w.modules) w.files
