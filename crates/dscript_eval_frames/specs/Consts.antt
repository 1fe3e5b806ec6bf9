-- The expressions of constants.
use Rattle.std.specs.Prelude.{ℕ, Option, Some, None}
use Rattle.dscript_program.specs.BoundTree.{ExprData}
use Rattle.dscript_program.specs.ProgramData as declared
use Rattle.dscript_program.specs.ProgramData.{KindData}
use Rattle.dscript_program.specs.Views.{program_data}
use Rattle.dscript_program.specs.declared.program.Program.{Program}
use Rattle.dscript_eval_meaning.specs.Lookups.{declared_at}

abbrev pub const_of : Option KindData → Option ExprData
const_of (Some (declared.Const t e)) = Some e
const_of _ = None

-- the expression of the declaration with a number in a file, if that is a constant
abbrev pub const_in : Program → ℕ → ℕ → Option ExprData
const_in p file decl = const_of (declared_at (program_data p) file decl)
