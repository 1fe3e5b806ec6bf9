use Rattle.std.proofs.Common.{◌≡◌, ◌++◌, map, take}
use Rattle.dscript_ast.specs.ExprTree.{to_exprs, to_operands, to_parts, to_elements, to_props, to_stmts}
use Rattle.dscript_ast.specs.Views.{expr_tree, operand_tree, part_tree, element_tree, prop_tree, stmt_tree}
use Rattle.dscript_print.specs.Runs.{preceded, concat_tokens}
use Rattle.dscript_print.specs.ExprKinds.{exprs_kinds, operands_kinds, parts_kinds, elements_kinds, props_kinds, stmts_kinds}
use Rattle.dscript_print.specs.Written.{written, middle_run}
use Rattle.dscript_print.proofs.writer.Writer.+exprs.Given as goal

abbrev pub invariant-elements-loop-one : goal.invariant-elements-loop-one
invariant-elements-loop-one l = written l.self ≡ written l.initial.self ++ preceded "," (elements_kinds (to_elements (map element_tree (take l.one-index l.others))))

abbrev pub invariant-exprs-loop-one : goal.invariant-exprs-loop-one
invariant-exprs-loop-one l = written l.self ≡ written l.initial.self ++ preceded "," (exprs_kinds (to_exprs (map expr_tree (take l.one-index l.others))))

abbrev pub invariant-operands-loop-operand : goal.invariant-operands-loop-operand
invariant-operands-loop-operand l = written l.self ≡ written l.initial.self ++ concat_tokens (operands_kinds l.tight (to_operands (map operand_tree (take l.operand-index l.operands))))

abbrev pub invariant-parts-loop-part : goal.invariant-parts-loop-part
invariant-parts-loop-part l = written l.self ≡ written l.initial.self ++ concat_tokens (parts_kinds (to_parts (map part_tree (take l.part-index l.parts))))

abbrev pub invariant-props-loop-one : goal.invariant-props-loop-one
invariant-props-loop-one l = written l.self ≡ written l.initial.self ++ preceded "," (props_kinds (to_props (map prop_tree (take l.one-index l.others))))

abbrev pub invariant-stmts-loop-stmt : goal.invariant-stmts-loop-stmt
invariant-stmts-loop-stmt l = written l.self ≡ written l.initial.self ++ concat_tokens (stmts_kinds (to_stmts (map stmt_tree (take l.stmt-index l.stmts))))

abbrev pub invariant-template-loop-hole : goal.invariant-template-loop-hole
invariant-template-loop-hole l = written l.self ≡ written l.initial.self ++ concat_tokens (map middle_run (take l.hole-index l.earlier))
