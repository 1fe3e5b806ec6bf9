use Rattle.std.proofs.Common.{ap, refl, subst}
use Rattle.std.specs.Option.{option_copied}
use Rattle.dscript_ast.specs.Views.{type_tree}
use Rattle.dscript_program.specs.Views.{function_data}
use Rattle.dscript_types_known.specs.Views.{finding_data}
use Rattle.dscript_types_meaning.specs.Annotations.{meant}
use Rattle.dscript_types_notes.proofs.Going.{if_ok}
use Rattle.dscript_types_notes.specs.Means.{Says}
use Rattle.dscript_types_scenes.specs.Statements.{note_of}
use Rattle.dscript_types_exprs.proofs.Declared.{annotated_nothing, annotated_open, annotated_says, answer_says}
use Rattle.dscript_types_exprs.proofs.declarations.answer_type.Goals as goal

pub returns-in_default : goal.returns-in_default
returns-in_default c =
    answer_says c.args.world.now c.args.place _ refl _ (function_data c.args.function.now) _ _ (ap (λ o. note_of (option_copied o)) c.in_default.is) refl
    c.in_ok-locals.ensures c.in_ok-inside.ensures.answer

pub returns-in-Found : goal.returns-in-Found
returns-in-Found c =
    if_ok _ _ _
    (λ f is. annotated_says c.args.world.now c.args.place (function_data c.args.function.now) _ (type_tree c.in-Some.node.now) (ap (λ o. note_of (option_copied o)) c.in-Some.is) c.in-Found.t c.in-Found.rank (finding_data f) (subst (λ f. Says c.args.world.now c.args.place (finding_data f) (λ p known d. meant p known d (type_tree c.in-Some.node.now))) c.in-Found.is c.in_ok-t.ensures) is)
    c.annotated.ensures

pub returns-in-Nothing : goal.returns-in-Nothing
returns-in-Nothing c = annotated_nothing c.args.world.now c.args.place (function_data c.args.function.now) _ (type_tree c.in-Some.node.now) (ap (λ o. note_of (option_copied o)) c.in-Some.is) (subst (λ f. Says c.args.world.now c.args.place (finding_data f) (λ p known d. meant p known d (type_tree c.in-Some.node.now))) c.in-Nothing.is c.in_ok-t.ensures)

pub returns-in-Open : goal.returns-in-Open
returns-in-Open c = annotated_open c.args.world.now c.args.place (function_data c.args.function.now) _ (type_tree c.in-Some.node.now) (ap (λ o. note_of (option_copied o)) c.in-Some.is) (subst (λ f. Says c.args.world.now c.args.place (finding_data f) (λ p known d. meant p known d (type_tree c.in-Some.node.now))) c.in-Open.is c.in_ok-t.ensures)
