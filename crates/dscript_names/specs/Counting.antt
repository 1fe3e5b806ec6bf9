-- Where the locals of a declaration begin.
use Rattle.std.specs.Prelude.{◌≡◌, ℕ, List, Some}
use Rattle.std.specs.Bool.{⊤}
use Rattle.std.specs.List.{slice_get, AllByRecursion}
use Rattle.dscript_program.specs.Numbering.{FillRun, takers_of}
use Rattle.dscript_program.specs.ProgramData as declares
use Rattle.dscript_program.specs.ProgramData.{FunctionData, KindData, ProgramData}

-- The locals in the value of a constant fill a run from 0, and a declared function has its first local at 0.
abbrev pub CountsFromZero : List FunctionData → KindData → Type 0
CountsFromZero functions (declares.Const t e) = (end : ℕ) × FillRun functions 0 (takers_of e) end
CountsFromZero functions (declares.Function ts t f) =
    (inner : FunctionData) × (slice_get functions f ≡ Some inner) × (inner.first_local ≡ 0)
CountsFromZero functions (declares.Interface ts es ms) = ⊤
CountsFromZero functions (declares.TypeAlias ts t) = ⊤

-- each declaration of the program counts its locals from 0
abbrev pub HasLocalsFromZero : ProgramData → Type 0
HasLocalsFromZero p =
    AllByRecursion (λ f. AllByRecursion (λ d. CountsFromZero p.functions d.kind) f.decls) p.files
