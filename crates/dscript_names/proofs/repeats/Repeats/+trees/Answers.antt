use Rattle.std.proofs.Common.{map, rules}
use Rattle.dscript_ast.specs.ExprTree.{to_elements, to_exprs, to_holes, to_operands, to_parts, to_props, to_stmts}
use Rattle.dscript_ast.specs.Views.{element_tree, expr_tree, hole_tree, operand_tree, part_tree, prop_tree, stmt_tree}
use Rattle.dscript_names_scopes.specs.Duplicates.{elements_repeat, expr_repeats, exprs_repeat, holes_repeat, operands_repeat, part_repeats, parts_repeat, prop_repeats, props_repeat, stmt_repeats, stmts_repeat}
use Rattle.dscript_names.specs.Singles.{element_value, hole_value, operand_value}
use Rattle.dscript_names.proofs.Found.{elements_listed, exprs_listed, found_more, holes_listed, operands_listed, parts_listed, props_listed, stmts_listed}
use Rattle.dscript_ast.specs.declared.expr.Expr.TheViews.{the_lemmas}
use Rattle.dscript_names.proofs.repeats.Repeats.+trees.Goals as goal

pub operands-operands-preserved : goal.operands-operands-preserved
operands-operands-preserved t c =
    found_more (λ xs. operands_repeat (to_operands (map operand_tree xs))) (λ x. expr_repeats (operand_value (operand_tree x))) operands_listed
    c.args.operands.now c.operands.operand-index _ _ _ _ c.operands.invariant c.in_ok-operand.ensures (search rules) c.operand-item.is

pub parts-parts-preserved : goal.parts-parts-preserved
parts-parts-preserved t c =
    found_more (λ xs. parts_repeat (to_parts (map part_tree xs))) (λ x. part_repeats (part_tree x)) parts_listed
    c.args.parts.now c.parts.part-index _ _ _ _ c.parts.invariant c.in_ok-part.ensures (search rules) c.part-item.is

pub exprs-exprs-preserved : goal.exprs-exprs-preserved
exprs-exprs-preserved t c =
    found_more (λ xs. exprs_repeat (to_exprs (map expr_tree xs))) (λ x. expr_repeats (expr_tree x)) exprs_listed
    c.args.exprs.now c.exprs.expr-index _ _ _ _ c.exprs.invariant c.in_ok-expr.ensures (search rules) c.expr-item.is

pub elements-elements-preserved : goal.elements-elements-preserved
elements-elements-preserved t c =
    found_more (λ xs. elements_repeat (to_elements (map element_tree xs))) (λ x. expr_repeats (element_value (element_tree x))) elements_listed
    c.args.elements.now c.elements.element-index _ _ _ _ c.elements.invariant c.in_ok-element.ensures (search rules) c.element-item.is

pub props-props-preserved : goal.props-props-preserved
props-props-preserved t c =
    found_more (λ xs. props_repeat (to_props (map prop_tree xs))) (λ x. prop_repeats (prop_tree x)) props_listed
    c.args.props.now c.props.prop-index _ _ _ _ c.props.invariant c.in_ok-prop.ensures (search rules) c.prop-item.is

pub holes-holes-preserved : goal.holes-holes-preserved
holes-holes-preserved t c =
    found_more (λ xs. holes_repeat (to_holes (map hole_tree xs))) (λ x. expr_repeats (hole_value (hole_tree x))) holes_listed
    c.args.holes.now c.holes.hole-index _ _ _ _ c.holes.invariant c.in_ok-hole.ensures (search rules) c.hole-item.is

pub stmts-stmts-preserved : goal.stmts-stmts-preserved
stmts-stmts-preserved t c =
    found_more (λ xs. stmts_repeat (to_stmts (map stmt_tree xs))) (λ x. stmt_repeats (stmt_tree x)) stmts_listed
    c.args.stmts.now c.stmts.stmt-index _ _ _ _ c.stmts.invariant c.in_ok-stmt.ensures (search rules) c.stmt-item.is

pub expr-operands-requires : goal.expr-operands-requires
expr-operands-requires t c = search (rules, the_lemmas)

pub expr-operands-requires-in-And : goal.expr-operands-requires-in-And
expr-operands-requires-in-And t c = search (rules, the_lemmas)

pub expr-operands-requires-in-Equality : goal.expr-operands-requires-in-Equality
expr-operands-requires-in-Equality t c = search (rules, the_lemmas)

pub expr-operands-requires-in-Relation : goal.expr-operands-requires-in-Relation
expr-operands-requires-in-Relation t c = search (rules, the_lemmas)

pub expr-operands-requires-in-Sum : goal.expr-operands-requires-in-Sum
expr-operands-requires-in-Sum t c = search (rules, the_lemmas)

pub expr-operands-requires-in-Product : goal.expr-operands-requires-in-Product
expr-operands-requires-in-Product t c = search (rules, the_lemmas)

pub expr-parts-requires : goal.expr-parts-requires
expr-parts-requires t c = search (rules, the_lemmas)
