use Rattle.dscript_ast.specs.Views.{type_tree}
use Rattle.dscript_types_known.specs.Views.{finding_data}
use Rattle.dscript_types_notes.proofs.Written.{note_meant, noted_found, noted_nothing, noted_open, seen_as}
use Rattle.dscript_types_notes.proofs.notes.noted.Goals as goal

pub returns-in_ok-if_optional-in-Found : goal.returns-in_ok-if_optional-in-Found
returns-in_ok-if_optional-in-Found c =
    let w = c.args.world.now in let place = c.args.place.now in let t = type_tree c.args.node.now in
    noted_found w place c.args.optional t c.in-Found.t c.in-Found.rank _ _
    (seen_as w place finding_data (note_meant w place c.args.optional t) _ _ c.in-Found.is c.in_ok-t.ensures)
    c.in_ok-if_optional-in-Found.ensures c.limited.ensures

pub returns-in-Nothing : goal.returns-in-Nothing
returns-in-Nothing c =
    let w = c.args.world.now in let place = c.args.place.now in let t = type_tree c.args.node.now in
    noted_nothing w place c.args.optional t
    (seen_as w place finding_data (note_meant w place c.args.optional t) _ _ c.in-Nothing.is c.in_ok-t.ensures)

pub returns-in-Open : goal.returns-in-Open
returns-in-Open c =
    let w = c.args.world.now in let place = c.args.place.now in let t = type_tree c.args.node.now in
    noted_open w place c.args.optional t
    (seen_as w place finding_data (note_meant w place c.args.optional t) _ _ c.in-Open.is c.in_ok-t.ensures)
