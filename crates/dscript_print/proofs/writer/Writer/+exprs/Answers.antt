use Rattle.std.proofs.Common.{rules, ◌∙◌, ◌++◌, map, false, ap, sym}
use Rattle.dscript_ast.specs.ExprTree.{to_exprs, to_operands, to_parts, to_elements, to_props, to_stmts}
use Rattle.dscript_ast.specs.Views.{expr_tree, operand_tree, part_tree, element_tree, prop_tree, stmt_tree}
use Rattle.dscript_print.specs.ExprKinds.{expr_kinds, exprs_kinds, operand_kinds, operands_kinds, part_kinds, parts_kinds, element_kinds, elements_kinds, prop_kinds, props_kinds, stmt_kinds, stmts_kinds}
use Rattle.dscript_print.specs.Written.{written, middle_run}
use Rattle.dscript_ast.proofs.NodeViews.{expr_tree-Or, expr_tree-And, expr_tree-Equality, expr_tree-Relation, expr_tree-Sum, expr_tree-Product, expr_tree-Unary, expr_tree-Postfix, expr_tree-Path, expr_tree-Cond, stmt_tree-Return, stmt_tree-Value}
use Rattle.dscript_print.proofs.Steps.{led_turn, joined_turn, joined_step, if_ok}
use Rattle.dscript_print.proofs.Arms.{two_steps, three_steps, five_steps, chain_from, signed_from, post_from, path_from, cond_from, chain_run, cond_run, signed_run, post_run, path_run, return_run, value_run, exprs_listed, operands_listed, parts_listed, elements_listed, props_listed, stmts_listed, no_holes_run, template_run}
use Rattle.dscript_print.proofs.writer.Writer.+exprs.Goals as goal

pub elements-loop-one-preserved : goal.elements-loop-one-preserved
elements-loop-one-preserved t c =
    led_turn (λ xs. elements_kinds (to_elements (map element_tree xs))) (λ x. element_kinds (element_tree x)) elements_listed "," c.in-Some.others.now c.loop-one.one-index _ _ _ _ _
    c.loop-one.invariant c.in_ok-comma.ensures c.in_ok-element-2.ensures (search rules) c.one-item.is

pub exprs-loop-one-preserved : goal.exprs-loop-one-preserved
exprs-loop-one-preserved t c =
    led_turn (λ xs. exprs_kinds (to_exprs (map expr_tree xs))) (λ x. expr_kinds false 10 (expr_tree x)) exprs_listed "," c.in-Some.others.now c.loop-one.one-index _ _ _ _ _
    c.loop-one.invariant c.in_ok-comma.ensures c.in_ok-expr-2.ensures (search rules) c.one-item.is

pub props-loop-one-preserved : goal.props-loop-one-preserved
props-loop-one-preserved t c =
    led_turn (λ xs. props_kinds (to_props (map prop_tree xs))) (λ x. prop_kinds (prop_tree x)) props_listed "," c.in-Some.others.now c.loop-one.one-index _ _ _ _ _
    c.loop-one.invariant c.in_ok-comma.ensures c.in_ok-prop-2.ensures (search rules) c.one-item.is

pub operands-loop-operand-preserved : goal.operands-loop-operand-preserved
operands-loop-operand-preserved t c =
    joined_turn (λ xs. operands_kinds c.args.tight (to_operands (map operand_tree xs))) (λ x. operand_kinds c.args.tight (operand_tree x)) (operands_listed c.args.tight) c.args.operands.now c.loop-operand.operand-index _ _ _ _
    c.loop-operand.invariant c.in_ok-operand.ensures (search rules) c.operand-item.is

pub parts-loop-part-preserved : goal.parts-loop-part-preserved
parts-loop-part-preserved t c =
    joined_turn (λ xs. parts_kinds (to_parts (map part_tree xs))) (λ x. part_kinds (part_tree x)) parts_listed c.args.parts.now c.loop-part.part-index _ _ _ _
    c.loop-part.invariant c.in_ok-part.ensures (search rules) c.part-item.is

pub stmts-loop-stmt-preserved : goal.stmts-loop-stmt-preserved
stmts-loop-stmt-preserved t c =
    joined_turn (λ xs. stmts_kinds (to_stmts (map stmt_tree xs))) (λ x. stmt_kinds (stmt_tree x)) stmts_listed c.args.stmts.now c.loop-stmt.stmt-index _ _ _ _
    c.loop-stmt.invariant (search rules) (search rules) c.stmt-item.is

pub template-loop-hole-preserved : goal.template-loop-hole-preserved
template-loop-hole-preserved t c =
    joined_step middle_run c.in-Some.earlier.now c.loop-hole.hole-index _ _ _ _ c.loop-hole.invariant c.in_ok-middle_hole-in-Some.ensures (search rules) c.hole-item.is

pub template-returns-after-loop-hole : goal.template-returns-after-loop-hole
template-returns-after-loop-hole t c =
    if_ok c.last_hole.result (λ x e. template_run c.in-Some.earlier.now c.args.holes.now c.in-Some.last.now c.args.text.now c.loop-hole.hole-index _ _ _ _
    (search rules) c.loop-hole-test.false c.in_ok-first_part-in-Some.ensures c.loop-hole.invariant e) c.last_hole.ensures

pub template-returns-in-None : goal.template-returns-in-None
template-returns-in-None t c =
    if_ok c.whole.result (λ x e. e ∙ ap (λ z. written c.args.self.now ++ z) (sym (no_holes_run c.args.holes.now c.args.text.now c.in-None.ensures.cases))) c.whole.ensures

pub node-returns-in_ok-expr-in-Or : goal.node-returns-in_ok-expr-in-Or
node-returns-in_ok-expr-in-Or t c =
    if_ok c.operands.result (λ x e. two_steps _ _ _ _ _ _
    (chain_run c.args.unbraced (expr_tree c.args.expr.now) 8 c.deref-in-Or.result.now c.as_slice-in-Or.result.now
    (chain_from _ 8 c.in-Or.first.value _ c.in-Or.others.items _ (ap expr_tree c.in-Or.is ∙ expr_tree-Or c.in-Or.first c.in-Or.others) (search rules) (search rules)))
    c.in_ok-expr-in-Or.ensures e) c.operands.ensures

pub node-returns-in_ok-expr-in-And : goal.node-returns-in_ok-expr-in-And
node-returns-in_ok-expr-in-And t c =
    if_ok c.operands-in-And.result (λ x e. two_steps _ _ _ _ _ _
    (chain_run c.args.unbraced (expr_tree c.args.expr.now) 7 c.deref-in-And.result.now c.as_slice-in-And.result.now
    (chain_from _ 7 c.in-And.first.value _ c.in-And.others.items _ (ap expr_tree c.in-And.is ∙ expr_tree-And c.in-And.first c.in-And.others) (search rules) (search rules)))
    c.in_ok-expr-in-And.ensures e) c.operands-in-And.ensures

pub node-returns-in_ok-expr-in-Equality : goal.node-returns-in_ok-expr-in-Equality
node-returns-in_ok-expr-in-Equality t c =
    if_ok c.operands-in-Equality.result (λ x e. two_steps _ _ _ _ _ _
    (chain_run c.args.unbraced (expr_tree c.args.expr.now) 6 c.deref-in-Equality.result.now c.as_slice-in-Equality.result.now
    (chain_from _ 6 c.in-Equality.first.value _ c.in-Equality.others.items _ (ap expr_tree c.in-Equality.is ∙ expr_tree-Equality c.in-Equality.first c.in-Equality.others) (search rules) (search rules)))
    c.in_ok-expr-in-Equality.ensures e) c.operands-in-Equality.ensures

pub node-returns-in_ok-expr-in-Relation : goal.node-returns-in_ok-expr-in-Relation
node-returns-in_ok-expr-in-Relation t c =
    if_ok c.operands-in-Relation.result (λ x e. two_steps _ _ _ _ _ _
    (chain_run c.args.unbraced (expr_tree c.args.expr.now) 5 c.deref-in-Relation.result.now c.as_slice-in-Relation.result.now
    (chain_from _ 5 c.in-Relation.first.value _ c.in-Relation.others.items _ (ap expr_tree c.in-Relation.is ∙ expr_tree-Relation c.in-Relation.first c.in-Relation.others) (search rules) (search rules)))
    c.in_ok-expr-in-Relation.ensures e) c.operands-in-Relation.ensures

pub node-returns-in_ok-expr-in-Sum : goal.node-returns-in_ok-expr-in-Sum
node-returns-in_ok-expr-in-Sum t c =
    if_ok c.operands-in-Sum.result (λ x e. two_steps _ _ _ _ _ _
    (chain_run c.args.unbraced (expr_tree c.args.expr.now) 4 c.deref-in-Sum.result.now c.as_slice-in-Sum.result.now
    (chain_from _ 4 c.in-Sum.first.value _ c.in-Sum.others.items _ (ap expr_tree c.in-Sum.is ∙ expr_tree-Sum c.in-Sum.first c.in-Sum.others) (search rules) (search rules)))
    c.in_ok-expr-in-Sum.ensures e) c.operands-in-Sum.ensures

pub node-returns-in_ok-expr-in-Product : goal.node-returns-in_ok-expr-in-Product
node-returns-in_ok-expr-in-Product t c =
    if_ok c.operands-in-Product.result (λ x e. two_steps _ _ _ _ _ _
    (chain_run c.args.unbraced (expr_tree c.args.expr.now) 3 c.deref-in-Product.result.now c.as_slice-in-Product.result.now
    (chain_from _ 3 c.in-Product.first.value _ c.in-Product.others.items _ (ap expr_tree c.in-Product.is ∙ expr_tree-Product c.in-Product.first c.in-Product.others) (search rules) (search rules)))
    c.in_ok-expr-in-Product.ensures e) c.operands-in-Product.ensures

pub node-returns-in_ok-expr-in-Postfix : goal.node-returns-in_ok-expr-in-Postfix
node-returns-in_ok-expr-in-Postfix t c =
    if_ok c.parts.result (λ x e. two_steps _ _ _ _ _ _
    (post_run c.args.unbraced (expr_tree c.args.expr.now) c.deref-in-Postfix.result.now c.as_slice-in-Postfix.result.now
    (post_from _ c.in-Postfix.value.value _ c.in-Postfix.parts.items _ (ap expr_tree c.in-Postfix.is ∙ expr_tree-Postfix c.in-Postfix.value c.in-Postfix.parts) (search rules) (search rules)))
    c.in_ok-expr-in-Postfix.ensures e) c.parts.ensures

pub node-returns-in_ok-cond_branch-in-Cond : goal.node-returns-in_ok-cond_branch-in-Cond
node-returns-in_ok-cond_branch-in-Cond t c =
    if_ok c.cond_branch-in-Cond.result (λ x e. three_steps _ _ _ _ _ _ _ _
    (cond_run c.args.unbraced (expr_tree c.args.expr.now) c.deref-in-Cond.result.now c.deref-in-Cond-2.result.now c.deref-in-Cond-3.result.now
    (cond_from _ c.in-Cond.test.value c.in-Cond.one.value c.in-Cond.other.value _ _ _ (ap expr_tree c.in-Cond.is ∙ expr_tree-Cond c.in-Cond.test c.in-Cond.one c.in-Cond.other) (search rules) (search rules) (search rules)))
    c.in_ok-expr-in-Cond.ensures c.in_ok-cond_branch-in-Cond.ensures e) c.cond_branch-in-Cond.ensures
