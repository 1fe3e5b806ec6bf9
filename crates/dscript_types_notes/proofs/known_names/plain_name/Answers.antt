use Rattle.std.proofs.Common.{Some, ap, sym, ◌∙◌}
use Rattle.std.specs.Option.{option_map}
use Rattle.dscript_types_notes.proofs.KnownTypes.{known_by_name}
use Rattle.dscript_types_notes.specs.KnownNames.{type_named}
use Rattle.dscript_types_notes.proofs.known_names.plain_name.Goals as goal

pub returns-in_ok-type_of-in-Some : goal.returns-in_ok-type_of-in-Some
returns-in_ok-type_of-in-Some c =
    ap Some c.in_ok-type_of-in-Some.ensures ∙ ap (option_map type_named) (sym c.in-Some.is ∙ c.find_name.ensures)
    ∙ known_by_name c.args.name.now

pub returns-in-None : goal.returns-in-None
returns-in-None c = ap (option_map type_named) (sym c.in-None.is ∙ c.find_name.ensures) ∙ known_by_name c.args.name.now
