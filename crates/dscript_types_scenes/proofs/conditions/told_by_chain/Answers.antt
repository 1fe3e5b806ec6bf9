use Rattle.std.proofs.Common.{◌∙◌, ◌≡◌, ap, arith, length, map, sym}
use Rattle.bx_tree.proofs.Lists.{none_left}
use Rattle.dscript_program.specs.BoundTree as tree
use Rattle.dscript_program.specs.BoundTree.{to_operands}
use Rattle.dscript_program.specs.Views.{expr_data, operand_data}
use Rattle.dscript_types_meaning.specs.Narrowing.{told, told_if_named}
use Rattle.dscript_types_scenes.proofs.Shapes.{many_tell_nothing, no_operand_tells, one_tells}
use Rattle.dscript_types_scenes.proofs.conditions.told_by_chain.Goals as goal

pub returns-in_default : goal.returns-in_default
returns-in_default c =
    no_operand_tells (expr_data c.args.first.now)
    ∙ ap (λ os. told (tree.Chain (expr_data c.args.first.now) (to_operands (map operand_data os))))
    (sym (none_left c.args.more.now c.in_default.ensures.cases))

pub returns-then-not-is_empty : goal.returns-then-not-is_empty
returns-then-not-is_empty c =
    let some : length c.in-Some.others.now ≡ 0 → ⊥ = λ e. grind (arith, c.is_empty.ensures, c.if-not-is_empty.true, e) in
    many_tell_nothing (expr_data c.args.first.now) _ _ _ c.in-Some.ensures.cases.0 some

pub returns : goal.returns
returns c =
    let none : length c.in-Some.others.now ≡ 0 = grind (arith, c.is_empty.ensures, c.if-not-is_empty.false) in
    c.told_by.ensures ∙ ap (told_if_named _ _) c.local_named.ensures
    ∙ one_tells (expr_data c.args.first.now) _ _ _ c.in-Some.ensures.cases.0 _ _ none c.operand_parts-operator.ensures
