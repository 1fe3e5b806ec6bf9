use Rattle.std.proofs.Common.{◌≡◌, ℕ, length}
use Rattle.std.specs.Option.{option_or}
use Rattle.dscript_program.specs.ProgramData.{Dotted}
use Rattle.dscript_names_scopes.specs.Declarations.{sees_of}
use Rattle.dscript_names_scopes.specs.Lookup.{value_of_module}
use Rattle.dscript_names_scopes.specs.Tables.{at_module}
use Rattle.dscript_names_scopes.proofs.tables.values_of_modules.Given as goal

abbrev pub invariant-last : goal.invariant-last
invariant-last l = (m : ℕ) (name : Dotted) →
    option_or (value_of_module (sees_of l.viewer) m 0 l.left name) (at_module l.modules.tables m name)
    ≡ value_of_module (sees_of l.viewer) m 0 l.fn.files name

abbrev pub decreases-last : goal.decreases-last
decreases-last l = length l.left
