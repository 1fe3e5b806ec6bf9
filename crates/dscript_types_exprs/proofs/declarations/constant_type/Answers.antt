use Rattle.std.proofs.Common.{ap, refl}
use Rattle.std.specs.Option.{option_copied}
use Rattle.dscript_ast.specs.Views.{type_tree}
use Rattle.dscript_program.specs.Views.{expr_data}
use Rattle.dscript_types_known.specs.Views.{finding_data}
use Rattle.dscript_types_notes.proofs.Going.{if_ok}
use Rattle.dscript_types_scenes.specs.Statements.{note_of}
use Rattle.dscript_types_exprs.proofs.Declared.{noted_says, value_says}
use Rattle.dscript_types_exprs.proofs.Ruled.{value_found}
use Rattle.dscript_types_exprs.proofs.declarations.constant_type.Goals as goal

pub returns-in-Some : goal.returns-in-Some
returns-in-Some c =
    if_ok _ _ _
    (λ f says. noted_says c.args.world.now c.args.place (expr_data c.args.value.now) _ (type_tree c.in-Some.node.now) (finding_data f)
    (ap (λ o. note_of (option_copied o)) c.in-Some.is) says)
    c.meaning.ensures

pub returns : goal.returns
returns c =
    value_says c.args.world.now c.args.place _ refl (expr_data c.args.value.now) _ _ c.new.ensures
    (value_found c.args.world.now _ (expr_data c.args.value.now) _ c.in_ok-type_of-in-None.ensures _ _
    (ap (λ o. note_of (option_copied o)) c.in-None.is) c.finding.ensures)
