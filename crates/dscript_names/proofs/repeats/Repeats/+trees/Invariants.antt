use Rattle.std.proofs.Common.{◌≡◌, ◌||◌, map, take}
use Rattle.dscript_ast.specs.ExprTree.{to_elements, to_exprs, to_holes, to_operands, to_parts, to_props, to_stmts}
use Rattle.dscript_ast.specs.Views.{element_tree, expr_tree, hole_tree, operand_tree, part_tree, prop_tree, stmt_tree}
use Rattle.dscript_names_scopes.specs.Duplicates.{elements_repeat, exprs_repeat, holes_repeat, operands_repeat, parts_repeat, props_repeat, stmts_repeat}
use Rattle.dscript_names.proofs.repeats.Repeats.+trees.Given as goal

abbrev pub invariant-operands-operands : goal.invariant-operands-operands
invariant-operands-operands l =
    l.self.found ≡ (l.initial.self.found || operands_repeat (to_operands (map operand_tree (take l.operand-index l.operands))))

abbrev pub invariant-parts-parts : goal.invariant-parts-parts
invariant-parts-parts l =
    l.self.found ≡ (l.initial.self.found || parts_repeat (to_parts (map part_tree (take l.part-index l.parts))))

abbrev pub invariant-exprs-exprs : goal.invariant-exprs-exprs
invariant-exprs-exprs l =
    l.self.found ≡ (l.initial.self.found || exprs_repeat (to_exprs (map expr_tree (take l.expr-index l.exprs))))

abbrev pub invariant-elements-elements : goal.invariant-elements-elements
invariant-elements-elements l =
    l.self.found ≡ (l.initial.self.found || elements_repeat (to_elements (map element_tree (take l.element-index l.elements))))

abbrev pub invariant-props-props : goal.invariant-props-props
invariant-props-props l =
    l.self.found ≡ (l.initial.self.found || props_repeat (to_props (map prop_tree (take l.prop-index l.props))))

abbrev pub invariant-holes-holes : goal.invariant-holes-holes
invariant-holes-holes l =
    l.self.found ≡ (l.initial.self.found || holes_repeat (to_holes (map hole_tree (take l.hole-index l.holes))))

abbrev pub invariant-stmts-stmts : goal.invariant-stmts-stmts
invariant-stmts-stmts l =
    l.self.found ≡ (l.initial.self.found || stmts_repeat (to_stmts (map stmt_tree (take l.stmt-index l.stmts))))
