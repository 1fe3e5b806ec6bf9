use Rattle.std.proofs.Common.{◌∙◌, Bool, ap, sym}
use Rattle.std.specs.Option.{option_map}
use Rattle.dscript_program.specs.Views.{expr_data}
use Rattle.dscript_types_meaning.specs.Narrowing.{told_if_named}
use Rattle.dscript_types_scenes.proofs.Shapes.{compared_with_another, compared_with_undefined}
use Rattle.dscript_types_scenes.proofs.conditions.told_by.Goals as goal

pub returns-in_default : goal.returns-in_default
returns-in_default c = ap (told_if_named c.args.operator (expr_data c.args.value.now)) (sym c.in_default.is)

pub returns-then-not-is_undefined : goal.returns-then-not-is_undefined
returns-then-not-is_undefined c =
    compared_with_another c.args.operator _ c.in-Some.number _ c.in-Some.is _ c.is_undefined.ensures c.if-not-is_undefined.true

pub returns-in-Some-outcome_by : goal.returns-in-Some-outcome_by
returns-in-Some-outcome_by c =
    ap (option_map (λ (outcome : Bool). (c.in-Some.number, outcome))) (sym c.in-Some-outcome_by.is)
    ∙ compared_with_undefined c.args.operator _ c.in-Some.number _ c.in-Some.is _ c.is_undefined.ensures _
    c.if-not-is_undefined.false c.outcome_by.ensures

pub returns-in-None : goal.returns-in-None
returns-in-None c =
    ap (option_map (λ (outcome : Bool). (c.in-Some.number, outcome))) (sym c.in-None.is)
    ∙ compared_with_undefined c.args.operator _ c.in-Some.number _ c.in-Some.is _ c.is_undefined.ensures _
    c.if-not-is_undefined.false c.outcome_by.ensures
