use Rattle.std.proofs.Common.{ap, sym, ◌∙◌}
use Rattle.std.specs.Option.{option_map}
use Rattle.dscript_types_known.specs.Views.{finding_data}
use Rattle.dscript_types_notes.specs.Found.{found_data}
use Rattle.dscript_types_notes.proofs.Going.{if_ok}
use Rattle.dscript_types_notes.proofs.Written.{named_found_at, named_parameter, named_undeclared}
use Rattle.dscript_types_notes.proofs.notes.named_type.Goals as goal

pub returns-then-is_parameter : goal.returns-then-is_parameter
returns-then-is_parameter c =
    named_parameter c.args.world.now c.args.place.now c.args.names.now c.args.arguments.now c.args.rank
    (sym c.if-is_parameter.true ∙ c.is_parameter.ensures)

pub returns-in-Some : goal.returns-in-Some
returns-in-Some c =
    if_ok _ _ _
    (λ f is. named_found_at c.args.world.now c.args.place.now c.args.names.now c.args.arguments.now c.args.rank
    (found_data c.in-Some.found).0 (found_data c.in-Some.found).1 (finding_data f) c.requires
    (sym c.if-is_parameter.false ∙ c.is_parameter.ensures)
    (sym (ap (option_map found_data) c.in-Some.is) ∙ c.in_ok-found.ensures) is)
    c.found_meaning.ensures

pub returns-in_ok-undeclared-in-None : goal.returns-in_ok-undeclared-in-None
returns-in_ok-undeclared-in-None c =
    named_undeclared c.args.world.now c.args.place.now c.args.names.now c.args.arguments.now c.args.rank
    (sym c.if-is_parameter.false ∙ c.is_parameter.ensures) _ (finding_data c.limited_if.result)
    (sym (ap (option_map found_data) c.in-None.is) ∙ c.in_ok-found.ensures)
    c.in_ok-undeclared-in-None.ensures c.limited_if.ensures
