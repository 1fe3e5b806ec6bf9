use Rattle.std.proofs.Common.{map}
use Rattle.dscript_ast.specs.Views.{member_tree, type_tree}
use Rattle.dscript_types_data.specs.Views.{fields_now}
use Rattle.dscript_types_known.specs.Views.{finding_data}
use Rattle.dscript_types_notes.specs.Means.{finding_fields}
use Rattle.dscript_types_notes.proofs.Going.{if_ok}
use Rattle.dscript_types_notes.proofs.Written.{extension_of, interface_found, interface_nothing, interface_open, seen_as}
use Rattle.dscript_types_notes.proofs.notes.interface_type.Goals as goal

pub returns-in-Found : goal.returns-in-Found
returns-in-Found c =
    let w = c.args.world.now in let place = c.args.place.now in
    let es = map type_tree c.args.nodes.now in let ms = map member_tree c.args.members.now in
    if_ok _ _ _
    (λ f says. interface_found w place es ms (fields_now c.in-Found.fields) c.in-Found.rank (finding_data f)
    (seen_as w place finding_fields (extension_of w place es ms) _ _ c.in-Found.is c.in_ok-fields.ensures) says)
    c.object_meaning.ensures

pub returns-in-Nothing : goal.returns-in-Nothing
returns-in-Nothing c =
    let w = c.args.world.now in let place = c.args.place.now in
    let es = map type_tree c.args.nodes.now in let ms = map member_tree c.args.members.now in
    interface_nothing w place es ms
    (seen_as w place finding_fields (extension_of w place es ms) _ _ c.in-Nothing.is c.in_ok-fields.ensures)

pub returns-in-Open : goal.returns-in-Open
returns-in-Open c =
    let w = c.args.world.now in let place = c.args.place.now in
    let es = map type_tree c.args.nodes.now in let ms = map member_tree c.args.members.now in
    interface_open w place es ms
    (seen_as w place finding_fields (extension_of w place es ms) _ _ c.in-Open.is c.in_ok-fields.ensures)
