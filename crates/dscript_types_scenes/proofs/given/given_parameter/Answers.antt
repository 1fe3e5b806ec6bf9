use Rattle.std.proofs.Common.{◌∙◌, ap, refl, sym}
use Rattle.std.specs.Option.{option_copied}
use Rattle.dscript_ast.specs.Views.{note_tree, param_tree}
use Rattle.dscript_types_known.specs.Views.{finding_data}
use Rattle.dscript_types_notes.proofs.Going.{if_ok}
use Rattle.dscript_types_scenes.proofs.Ruling.{given_noted, given_plain}
use Rattle.dscript_types_scenes.specs.Statements.{note_of}
use Rattle.dscript_types_scenes.proofs.given.given_parameter.Goals as goal

pub returns-in-None : goal.returns-in-None
returns-in-None c =
    if_ok _ _ _
    (λ f is. given_plain c.args.world.now c.args.scene.now (param_tree c.args.param.now) c.args.given.now
    (note_tree c.args.param.now.type_node) _ _ (finding_data f) (sym c.note_of.ensures ∙ ap (λ o. note_of (option_copied o)) c.in-None.is) refl refl is)
    c.plain_parameter.ensures

pub returns-in_ok-noted-in-Some : goal.returns-in_ok-noted-in-Some
returns-in_ok-noted-in-Some c =
    if_ok _ _ _
    (λ f is. given_noted c.args.world.now c.args.scene.now (param_tree c.args.param.now) c.args.given.now
    (note_tree c.args.param.now.type_node) _ _ (finding_data f) (sym c.note_of.ensures ∙ ap (λ o. note_of (option_copied o)) c.in-Some.is) c.in_ok-noted-in-Some.ensures is)
    c.taken.ensures
