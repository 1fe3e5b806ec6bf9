-- What a workspace with its parsed files means: a program, or the first fault of its names.
use Rattle.std.specs.Prelude.{ℕ, ◌+◌, List, [], ◌∷◌, ◌++◌, Option, Some, None, Result, Ok, Err}
use Rattle.bx_tree.specs.Paths.{Atoms}
use Rattle.dscript_program.specs.ProgramData.{DeclData, ProgramData}
use Rattle.dscript_program.specs.Workspaces.{ModuleData}
use Rattle.dscript_program.specs.SpecFaults.{FaultData}
use Rattle.dscript_program.specs.declared.spec_fault.SpecKind.{SpecKind}
use Rattle.dscript_program.specs.declared.spec_fault.SpecKind.TheVariants as faults
use Rattle.dscript_names_scopes.specs.Names.{World, FileNames}
use Rattle.dscript_names_scopes.specs.Declarations.{ParsedData, names_of, items_of, world_of}
use Rattle.dscript_names_scopes.specs.Duplicates.{first_duplicate}
use Rattle.dscript_names_binding.specs.Walk.{Bound}
use Rattle.dscript_names_binding.specs.Binding.{bind_items}

-- a fault of names has its file, and no place in it
abbrev pub fault_in_file : SpecKind → Atoms → FaultData
fault_in_file kind path = record { kind = kind; file = path; place = None }

-- a file's declarations before the files after it, and its functions before theirs
abbrev pub before_others : Atoms → FileNames → Bound (List DeclData) → Result ProgramData FaultData
    → Result ProgramData FaultData
before_others path names b (Ok p) = Ok (record {
  files = record { path = path; module_number = names.module_number; decls = b.value } ∷ p.files;
  functions = b.functions ++ p.functions;
})
before_others path names b (Err fault) = Err fault

-- the file comes first, and then the files after it, with its functions before theirs
abbrev pub file_first : Atoms → FileNames → Result (Bound (List DeclData)) SpecKind
    → (ℕ → Result ProgramData FaultData) → Result ProgramData FaultData
file_first path names (Ok b) others = before_others path names b (others b.after.functions)
file_first path names (Err kind) others = Err (fault_in_file kind path)

module _ (modules : List ModuleData) (world : World) where
  -- the files from the one of this number on, with this many functions before them: bound, or the first fault
  abbrev pub bind_files : ℕ → List ParsedData → ℕ → Result ProgramData FaultData
  bind_files n [] functions = Ok (record { files = []; functions = [] })
  bind_files n (p ∷ ps) functions =
      file_first p.path (names_of modules p)
      (bind_items world n (names_of modules p) (items_of p.file)
      (record { blocks = []; locals = 0; functions = functions }))
      (bind_files (n + 1) ps)

-- No name is declared twice anywhere, or else the first file where one is decides.
abbrev pub unless_duplicate : Option Atoms → Result ProgramData FaultData → Result ProgramData FaultData
unless_duplicate (Some path) program = Err (fault_in_file faults.DuplicateName path)
unless_duplicate None program = program

-- The program of these modules with these parsed files, or the first fault: that of a name that is declared
-- twice, over all files, and then that of another name, by file and within a file by the place of its first
-- token. The files are taken in the order of the list, which is that of their paths in a workspace. A file
-- that no module has counts as one of a module after the last.
unfoldable pub named : List ModuleData → List ParsedData → Result ProgramData FaultData
named modules files =
    unless_duplicate (first_duplicate modules [] files)
    (bind_files modules (world_of modules files) 0 files 0)
