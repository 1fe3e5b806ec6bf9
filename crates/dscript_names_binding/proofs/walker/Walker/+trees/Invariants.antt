use Rattle.std.proofs.Common.{map, drop, ◌+◌, ◌*◌}
use Rattle.std.specs.Vec.Iter.{into_iter_items}
use Rattle.dscript_ast.specs.Views.{element_tree, expr_tree, hole_tree, operand_tree, part_tree, prop_tree, stmt_tree}
use Rattle.dscript_program.specs.Views.{element_data, expr_data, hole_data, operand_data, part_data, prop_data, stmt_data}
use Rattle.dscript_names_binding.specs.Binding.{bind_element, bind_expr, bind_hole, bind_operand, bind_part, bind_prop, bind_stmt}
use Rattle.dscript_names_binding.specs.Scenes.{site_at, world_at}
use Rattle.dscript_names_binding.specs.Turned.{Turned}
use Rattle.dscript_names_binding.proofs.walker.Walker.+trees.Given as goal

abbrev pub invariant-exprs-exprs : goal.invariant-exprs-exprs
invariant-exprs-exprs l =
    (goal.iterator-exprs-exprs).can_next l.expr-iterator
    × (goal.iterator-exprs-exprs).is_finite l.expr-iterator
    × Turned expr_data
    (map (λ x. bind_expr (world_at l.scene) (site_at l.scene) (expr_tree x)) l.fn.exprs.items)
    (map (λ x. bind_expr (world_at l.scene) (site_at l.scene) (expr_tree x)) (into_iter_items l.expr-iterator))
    l.fn.self l.self l.bound.items

abbrev pub invariant-operands-operands : goal.invariant-operands-operands
invariant-operands-operands l =
    (goal.iterator-operands-operands).can_next l.operand-iterator
    × (goal.iterator-operands-operands).is_finite l.operand-iterator
    × Turned operand_data
    (map (λ x. bind_operand (world_at l.scene) (site_at l.scene) (operand_tree x)) l.fn.operands.items)
    (map (λ x. bind_operand (world_at l.scene) (site_at l.scene) (operand_tree x)) (into_iter_items l.operand-iterator))
    l.fn.self l.self l.bound.items

abbrev pub invariant-elements-elements : goal.invariant-elements-elements
invariant-elements-elements l =
    (goal.iterator-elements-elements).can_next l.element-iterator
    × (goal.iterator-elements-elements).is_finite l.element-iterator
    × Turned element_data
    (map (λ x. bind_element (world_at l.scene) (site_at l.scene) (element_tree x)) l.fn.elements.items)
    (map (λ x. bind_element (world_at l.scene) (site_at l.scene) (element_tree x)) (into_iter_items l.element-iterator))
    l.fn.self l.self l.bound.items

abbrev pub invariant-props-props : goal.invariant-props-props
invariant-props-props l =
    (goal.iterator-props-props).can_next l.prop-iterator
    × (goal.iterator-props-props).is_finite l.prop-iterator
    × Turned prop_data
    (map (λ x. bind_prop (world_at l.scene) (site_at l.scene) (prop_tree x)) l.fn.props.items)
    (map (λ x. bind_prop (world_at l.scene) (site_at l.scene) (prop_tree x)) (into_iter_items l.prop-iterator))
    l.fn.self l.self l.bound.items

abbrev pub invariant-holes-holes : goal.invariant-holes-holes
invariant-holes-holes l =
    (goal.iterator-holes-holes).can_next l.hole-iterator
    × (goal.iterator-holes-holes).is_finite l.hole-iterator
    × Turned hole_data
    (map (λ x. bind_hole (world_at l.scene) (site_at l.scene) (hole_tree x)) l.fn.holes.items)
    (map (λ x. bind_hole (world_at l.scene) (site_at l.scene) (hole_tree x)) (into_iter_items l.hole-iterator))
    l.fn.self l.self l.bound.items

abbrev pub invariant-stmts-stmts : goal.invariant-stmts-stmts
invariant-stmts-stmts l =
    (goal.iterator-stmts-stmts).can_next l.stmt-iterator
    × (goal.iterator-stmts-stmts).is_finite l.stmt-iterator
    × Turned stmt_data
    (map (λ x. bind_stmt (world_at l.scene) (site_at l.scene) (stmt_tree x)) l.fn.stmts.items)
    (map (λ x. bind_stmt (world_at l.scene) (site_at l.scene) (stmt_tree x)) (into_iter_items l.stmt-iterator))
    l.fn.self l.self l.bound.items

abbrev pub invariant-parts-parts : goal.invariant-parts-parts
invariant-parts-parts l =
    (goal.iterator-parts-parts).can_next l.part-iterator
    × (goal.iterator-parts-parts).is_finite l.part-iterator
    × Turned part_data
    (map (λ x. bind_part (world_at l.scene) (site_at l.scene) (part_tree x)) (drop l.skipped l.fn.parts.items))
    (map (λ x. bind_part (world_at l.scene) (site_at l.scene) (part_tree x)) (drop l.left (into_iter_items l.part-iterator)))
    l.fn.self l.self l.bound.items

abbrev pub decreases-arrow : goal.decreases-arrow
decreases-arrow l = 4 * goal.size-arrow l + 1

abbrev pub decreases-block : goal.decreases-block
decreases-block l = 4 * goal.size-block l + 2

abbrev pub decreases-block_arrow : goal.decreases-block_arrow
decreases-block_arrow l = 4 * goal.size-block_arrow l + 3

abbrev pub decreases-boxed : goal.decreases-boxed
decreases-boxed l = 4 * goal.size-boxed l + 1

abbrev pub decreases-chain : goal.decreases-chain
decreases-chain l = 4 * goal.size-chain l + 2

abbrev pub decreases-dotted : goal.decreases-dotted
decreases-dotted l = 4 * goal.size-dotted l + 2

abbrev pub decreases-element : goal.decreases-element
decreases-element l = 4 * goal.size-element l + 0

abbrev pub decreases-elements : goal.decreases-elements
decreases-elements l = 4 * goal.size-elements l + 1

abbrev pub decreases-expr : goal.decreases-expr
decreases-expr l = 4 * goal.size-expr l + 0

abbrev pub decreases-exprs : goal.decreases-exprs
decreases-exprs l = 4 * goal.size-exprs l + 1

abbrev pub decreases-function : goal.decreases-function
decreases-function l = 4 * goal.size-function l + 2

abbrev pub decreases-hole : goal.decreases-hole
decreases-hole l = 4 * goal.size-hole l + 0

abbrev pub decreases-holes : goal.decreases-holes
decreases-holes l = 4 * goal.size-holes l + 1

abbrev pub decreases-maybe : goal.decreases-maybe
decreases-maybe l = 4 * goal.size-maybe l + 1

abbrev pub decreases-nested : goal.decreases-nested
decreases-nested l = 4 * goal.size-nested l + 1

abbrev pub decreases-operand : goal.decreases-operand
decreases-operand l = 4 * goal.size-operand l + 0

abbrev pub decreases-operands : goal.decreases-operands
decreases-operands l = 4 * goal.size-operands l + 1

abbrev pub decreases-otherwise : goal.decreases-otherwise
decreases-otherwise l = 4 * goal.size-otherwise l + 2

abbrev pub decreases-part : goal.decreases-part
decreases-part l = 4 * goal.size-part l + 0

abbrev pub decreases-parts : goal.decreases-parts
decreases-parts l = 4 * goal.size-parts l + 1

abbrev pub decreases-postfix : goal.decreases-postfix
decreases-postfix l = 4 * goal.size-postfix l + 2

abbrev pub decreases-prop : goal.decreases-prop
decreases-prop l = 4 * goal.size-prop l + 0

abbrev pub decreases-props : goal.decreases-props
decreases-props l = 4 * goal.size-props l + 1

abbrev pub decreases-stmt : goal.decreases-stmt
decreases-stmt l = 4 * goal.size-stmt l + 0

abbrev pub decreases-stmts : goal.decreases-stmts
decreases-stmts l = 4 * goal.size-stmts l + 1

abbrev pub decreases-turn : goal.decreases-turn
decreases-turn l = 4 * goal.size-turn l + 2
