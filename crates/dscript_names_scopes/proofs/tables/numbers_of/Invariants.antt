use Rattle.std.proofs.Common.{◌≡◌, length}
use Rattle.std.specs.List.{position_from}
use Rattle.std.specs.Option.{option_or}
use Rattle.dscript_program.specs.ProgramData.{Dotted}
use Rattle.dscript_names_scopes.specs.Declarations.{is_any}
use Rattle.dscript_names_scopes.specs.Lookup.{is_value_of}
use Rattle.dscript_names_scopes.specs.Tables.{at_name}
use Rattle.dscript_names_scopes.proofs.tables.numbers_of.Given as goal

abbrev pub invariant-last : goal.invariant-last
invariant-last l = (name : Dotted) →
    option_or (position_from (is_value_of is_any name) 0 l.left) (at_name l.numbers name)
    ≡ position_from (is_value_of is_any name) 0 l.fn.decls

abbrev pub decreases-last : goal.decreases-last
decreases-last l = length l.left
