use Rattle.std.proofs.Common.{◌≡◌, ap, arith, length, sym}
use Rattle.bx_tree.proofs.Lists.{none_left}
use Rattle.dscript_types_scenes.proofs.Shapes.{alone_negates, alone_subtracts, not_alone}
use Rattle.dscript_types_scenes.specs.Shapes.{is_negation}
use Rattle.dscript_types_scenes.proofs.conditions.is_negation.Goals as goal

pub returns-in_default : goal.returns-in_default
returns-in_default c = ap is_negation (sym (none_left c.args.operators.now c.in_default.ensures.cases))

pub returns-then-not-is_empty : goal.returns-then-not-is_empty
returns-then-not-is_empty c =
    let some : length c.in-Some.rest.now ≡ 0 → ⊥ = λ e. grind (arith, c.is_empty.ensures, c.if-not-is_empty.true, e) in
    not_alone _ _ _ c.in-Some.ensures.cases.0 some

pub returns-in-Not : goal.returns-in-Not
returns-in-Not c =
    let none : length c.in-Some.rest.now ≡ 0 = grind (arith, c.is_empty.ensures, c.if-not-is_empty.false) in
    alone_negates _ _ _ c.in-Some.ensures.cases.0 none c.in-Not.is

pub returns-in-Negate : goal.returns-in-Negate
returns-in-Negate c =
    let none : length c.in-Some.rest.now ≡ 0 = grind (arith, c.is_empty.ensures, c.if-not-is_empty.false) in
    alone_subtracts _ _ _ c.in-Some.ensures.cases.0 none c.in-Negate.is
