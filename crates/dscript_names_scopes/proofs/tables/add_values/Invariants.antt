use Rattle.std.proofs.Common.{◌≡◌, length}
use Rattle.std.specs.List.{position_from}
use Rattle.std.specs.Option.{option_map, option_or}
use Rattle.dscript_program.specs.ProgramData.{Dotted}
use Rattle.dscript_program.specs.declared.target.Target.TheVariants as targets
use Rattle.dscript_names_scopes.specs.Declarations.{sees_of}
use Rattle.dscript_names_scopes.specs.Lookup.{is_value_of}
use Rattle.dscript_names_scopes.specs.Tables.{at_name}
use Rattle.dscript_names_scopes.proofs.tables.add_values.Given as goal

abbrev pub invariant-last : goal.invariant-last
invariant-last l = (name : Dotted) →
    option_or
    (option_map (targets.Declared l.number) (position_from (is_value_of (sees_of l.viewer) name) 0 l.left))
    (at_name l.values name)
    ≡ option_or
    (option_map (targets.Declared l.number) (position_from (is_value_of (sees_of l.viewer) name) 0 l.fn.decls))
    (at_name l.initial.values name)

abbrev pub decreases-last : goal.decreases-last
decreases-last l = length l.left
