-- Resolving the names of files, one after the other.
use Rattle.std.specs.Prelude.{◌≡◌, ℕ, ◌+◌, List, [], ◌∷◌, ◌++◌, map, length, None, Result, Ok, Err}
use Rattle.std.specs.Bool.{⊤}
use Rattle.bx_tree.specs.Paths.{Atoms}
use Rattle.dscript_ast.specs.FileTree.{ItemTree}
use Rattle.dscript_names_binding.specs.Binding.{bind_items}
use Rattle.dscript_names_binding.specs.Walk.{Bound, Here}
use Rattle.dscript_names_binding.specs.Walked.{table_of}
use Rattle.dscript_program.specs.SpecFaults.{FaultData}
use Rattle.dscript_program.specs.declared.spec_fault.SpecFault.{SpecFault}
use Rattle.dscript_program.specs.declared.spec_fault.SpecFault.TheVariants as faults
use Rattle.dscript_program.specs.ProgramData.{DeclData, FileData, FunctionData, ProgramData}
use Rattle.dscript_program.specs.Views.{file_data}
use Rattle.dscript_names_scopes.specs.Declarations.{ParsedData, items_of}
use Rattle.dscript_names_scopes.specs.Names.{FileNames, World}
use Rattle.dscript_names.specs.Named.{file_first}
use Rattle.dscript_names.specs.declared.resolving.Resolving.{Resolving}

-- where a file begins, after this number of functions
abbrev pub begun_with : ℕ → Here
begun_with functions = record { blocks = []; locals = 0; functions = functions }

abbrev pub count_of : Resolving → ℕ
count_of r = length r.binder.walker.functions.items

abbrev pub files_of : Resolving → List FileData
files_of r = map file_data r.files.items

-- the file of this number, whose names are resolved, came after those before
pub record FileResolved (world : World) (n : ℕ) (names : FileNames) (items : List ItemTree) (path : Atoms)
    (before after : Resolving) : Type 0 where
  pub came : Bound (List DeclData)
  pub is : bind_items world n names items (begun_with (count_of before)) ≡ Ok came
  pub files : files_of after
      ≡ files_of before
      ++ record { path = path; module_number = names.module_number; decls = came.value } ∷ []
  pub table : table_of after.binder.walker ≡ table_of before.binder.walker ++ came.functions
  pub count : came.after.functions ≡ count_of after

-- The names of the file have this fault. Running out of memory has no cause that is stated.
abbrev pub IsFileFault : World → ℕ → FileNames → List ItemTree → Atoms → ℕ → SpecFault → Type 0
IsFileFault world n names items path functions (faults.Fault kind file place) =
    (bind_items world n names items (begun_with functions) ≡ Err kind) × (file ≡ path) × (place ≡ None)
IsFileFault world n names items path functions faults.Memory = ⊤

abbrev pub ResolvesFile : {X : Type 0} → World → ℕ → FileNames → List ItemTree → Atoms → Resolving → Resolving
    → Result X SpecFault → Type 0
ResolvesFile world n names items path before after (Ok x) = FileResolved world n names items path before after
ResolvesFile world n names items path before after (Err fault) =
    IsFileFault world n names items path (count_of before) fault

-- the files with these names, from the one of this number on, after this number of functions
abbrev pub bind_each : World → ℕ → List FileNames → List ParsedData → ℕ → Result ProgramData FaultData
bind_each world n [] ps functions = Ok (record { files = []; functions = [] })
bind_each world n (names ∷ more) [] functions = Ok (record { files = []; functions = [] })
bind_each world n (names ∷ more) (p ∷ ps) functions =
    file_first p.path names (bind_items world n names (items_of p.file) (begun_with functions))
    (bind_each world (n + 1) more ps)

-- some files and functions, and then those of the remaining files
abbrev pub after_files : List FileData → List FunctionData → Result ProgramData FaultData
    → Result ProgramData FaultData
after_files files functions (Ok p) = Ok (record {
  files = files ++ p.files;
  functions = functions ++ p.functions;
})
after_files files functions (Err fault) = Err fault

-- the fault of a file; running out of memory has no cause that is stated
abbrev pub IsFaultOf : Result ProgramData FaultData → SpecFault → Type 0
IsFaultOf meaning (faults.Fault kind file place) =
    meaning ≡ Err (record { kind = kind; file = file; place = place })
IsFaultOf meaning faults.Memory = ⊤
