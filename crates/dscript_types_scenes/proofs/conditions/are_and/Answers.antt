use Rattle.std.proofs.Common.{◌∙◌, refl, sym}
use Rattle.dscript_types_meaning.specs.Narrowing.{is_and}
use Rattle.dscript_types_scenes.proofs.Ending.{each_ends, each_goes, each_stops}
use Rattle.dscript_types_scenes.proofs.conditions.are_and.Goals as goal

pub operands-init : goal.operands-init
operands-init c = refl

pub operands-preserved : goal.operands-preserved
operands-preserved c =
    each_goes is_and c.args.more.now c.operands.operand-index c.operand-item.result c.operands-test.true c.operand-item.is _ _
    c.operand_parts-operator.ensures (sym c.is_and.ensures ∙ c.if-not-is_and.false) c.operands.invariant

pub returns-then-not-is_and : goal.returns-then-not-is_and
returns-then-not-is_and c =
    each_stops is_and c.args.more.now c.operands.operand-index c.operand-item.result c.operands-test.true c.operand-item.is _ _
    c.operand_parts-operator.ensures (sym c.is_and.ensures ∙ c.if-not-is_and.true) c.operands.invariant

pub returns : goal.returns
returns c = each_ends is_and c.args.more.now c.operands.operand-index c.operands-test.false c.operands.invariant
