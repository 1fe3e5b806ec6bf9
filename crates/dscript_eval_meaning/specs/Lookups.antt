-- What a program has at a number.
use Rattle.std.specs.Prelude.{ℕ, [], slice_get, option_map, option_and_then, Option, Some, None}
use Rattle.bx_tree.specs.Paths.{Atoms}
use Rattle.dscript_program.specs.ProgramData.{DeclData, FileData, FunctionData, KindData, ProgramData}

abbrev pub path_in : Option FileData → Atoms
path_in None = []
path_in (Some file) = file.path

-- the path of the file with this number
abbrev pub path_at : ProgramData → ℕ → Atoms
path_at p file = path_in (slice_get p.files file)

-- what the declaration with this number in the file with this number declares
abbrev pub declared_at : ProgramData → ℕ → ℕ → Option KindData
declared_at p file decl =
    option_and_then
    (λ (f : FileData). option_map (λ (d : DeclData). d.kind) (slice_get f.decls decl))
    (slice_get p.files file)

abbrev pub function_at : ProgramData → ℕ → Option FunctionData
function_at p number = slice_get p.functions number
