use Rattle.std.proofs.Common.{◌∙◌, ap, map, sym}
use Rattle.dscript_program.proofs.NodeViews.{expr_data-Chain, expr_data-Unary}
use Rattle.dscript_program.specs.BoundTree.{to_operands}
use Rattle.dscript_program.specs.Views.{expr_data, operand_data}
use Rattle.dscript_types_scenes.specs.Shapes.{Chain, Unary, shape_of}
use Rattle.dscript_types_scenes.proofs.nodes.shape_of.Goals as goal

pub returns-in-Unary : goal.returns-in-Unary
returns-in-Unary c =
    ap (λ ops. Unary ops (expr_data c.deref.result.now)) c.as_slice.ensures.value
    ∙ ap (λ e. Unary c.in-Unary.operators.items (expr_data e)) c.deref.ensures
    ∙ sym (ap shape_of (ap expr_data c.in-Unary.is ∙ expr_data-Unary _ _))

pub returns-in-Chain : goal.returns-in-Chain
returns-in-Chain c =
    ap (λ os. Chain (expr_data c.deref-in-Chain.result.now) (to_operands (map operand_data os))) c.as_slice-in-Chain.ensures.value
    ∙ ap (λ e. Chain (expr_data e) (to_operands (map operand_data c.in-Chain.more.items))) c.deref-in-Chain.ensures
    ∙ sym (ap shape_of (ap expr_data c.in-Chain.is ∙ expr_data-Chain _ _))
