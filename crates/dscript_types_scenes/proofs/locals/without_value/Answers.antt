use Rattle.std.proofs.Common.{Option, ap, subst, sym, true}
use Rattle.std.specs.Option.{option_copied}
use Rattle.dscript_ast.specs.TypeTree.{TypeTree}
use Rattle.dscript_ast.specs.Views.{type_tree}
use Rattle.dscript_types_known.specs.Views.{finding_data}
use Rattle.dscript_types_meaning.specs.Bodies.{type_without_value}
use Rattle.dscript_types_meaning.specs.Functions.{noted}
use Rattle.dscript_types_notes.proofs.Going.{if_ok}
use Rattle.dscript_types_scenes.proofs.Noting.{undefined_found}
use Rattle.dscript_types_scenes.proofs.Ruling.{finds_note}
use Rattle.dscript_types_scenes.specs.Scenes.{FindsAs}
use Rattle.dscript_types_scenes.specs.Statements.{note_of}
use Rattle.dscript_types_scenes.proofs.locals.without_value.Goals as goal

pub returns-in-Some : goal.returns-in-Some
returns-in-Some c =
    if_ok _ _ _
    (λ f says. subst
    (λ (o : Option TypeTree). FindsAs c.args.world.now c.args.scene.now (finding_data f) (λ p known d. type_without_value p known d o))
    (sym (ap (λ o. note_of (option_copied o)) c.in-Some.is))
    (finds_note c.args.world.now c.args.scene.now (finding_data f) (λ p known d. noted p known d true (type_tree c.in-Some.node.now)) says))
    c.noted.ensures

pub returns-in_ok-undefined_type-in-None : goal.returns-in_ok-undefined_type-in-None
returns-in_ok-undefined_type-in-None c =
    undefined_found c.args.world.now c.args.scene.now (note_of (option_copied c.args.note)) _
    (ap (λ o. note_of (option_copied o)) c.in-None.is) c.in_ok-undefined_type-in-None.ensures
