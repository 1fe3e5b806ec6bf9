use Rattle.std.proofs.Common.{◌+◌, map}
use Rattle.std.specs.Option.{option_copied, option_map}
use Rattle.dscript_program.specs.BoundTree.{to_elements, to_exprs, to_holes, to_operands, to_parts, to_props, to_stmts}
use Rattle.dscript_program.specs.Views.{body_data, element_data, expr_data, hole_data, operand_data, part_data, prop_data, stmt_data}
use Rattle.dscript_types_data.specs.Views.{fields_now}
use Rattle.dscript_types_notes.specs.Means.{program_of}
use Rattle.dscript_types_scenes.proofs.Weights.{body_weight, elements_weight, else_weight, expr_weight, exprs_weight, holes_weight, maybe_weight, measure, operands_weight, part_weight, parts_weight, prop_weight, props_weight, stmt_weight, stmts_weight}
use Rattle.dscript_types_scenes.specs.Statements.{maybe_of, note_of}
use Rattle.dscript_types_exprs.proofs.Afters.{AfterGoes}
use Rattle.dscript_types_exprs.proofs.Chaining.{ChainGoes}
use Rattle.dscript_types_exprs.proofs.Declaring.{StmtsGo}
use Rattle.dscript_types_exprs.proofs.Holing.{HolesGo}
use Rattle.dscript_types_exprs.proofs.Listing.{ArgumentsGo, ItemsGo}
use Rattle.dscript_types_exprs.proofs.Objects.{ObjectGoes}
use Rattle.dscript_types_exprs.proofs.+exprs.Given as goal

abbrev pub decreases-exprs::subject : goal.decreases-exprs::subject
decreases-exprs::subject l = measure (program_of l.world.now) l.world.now.left (expr_weight (expr_data l.expr.now)) 1

abbrev pub decreases-exprs::type_of : goal.decreases-exprs::type_of
decreases-exprs::type_of l = measure (program_of l.world.now) l.world.now.left (expr_weight (expr_data l.expr.now)) 2

abbrev pub decreases-exprs::choice : goal.decreases-exprs::choice
decreases-exprs::choice l = measure (program_of l.world.now) l.world.now.left (expr_weight (expr_data l.condition.now) + (expr_weight (expr_data l.one.now) + expr_weight (expr_data l.other.now))) 4

abbrev pub decreases-exprs::operand_type : goal.decreases-exprs::operand_type
decreases-exprs::operand_type l = measure (program_of l.world.now) l.world.now.left (expr_weight (expr_data l.value.now)) 3

abbrev pub decreases-exprs::chain : goal.decreases-exprs::chain
decreases-exprs::chain l = measure (program_of l.world.now) l.world.now.left (expr_weight (expr_data l.first.now) + operands_weight (to_operands (map operand_data l.more.now))) 4

abbrev pub decreases-exprs::with_prefixes : goal.decreases-exprs::with_prefixes
decreases-exprs::with_prefixes l = measure (program_of l.world.now) l.world.now.left (expr_weight (expr_data l.operand.now)) 3

abbrev pub decreases-literals::template : goal.decreases-literals::template
decreases-literals::template l = measure (program_of l.world.now) l.world.now.left (holes_weight (to_holes (map hole_data l.holes.now))) 6

abbrev pub decreases-literals::literal : goal.decreases-literals::literal
decreases-literals::literal l = measure (program_of l.world.now) l.world.now.left (holes_weight (to_holes (map hole_data l.holes.now))) 6

abbrev pub decreases-literals::literal_fits : goal.decreases-literals::literal_fits
decreases-literals::literal_fits l = measure (program_of l.world.now) l.world.now.left (holes_weight (to_holes (map hole_data l.holes.now))) 5

abbrev pub decreases-literals::hole_fits : goal.decreases-literals::hole_fits
decreases-literals::hole_fits l = measure (program_of l.world.now) l.world.now.left (expr_weight (expr_data l.value.now)) 3

abbrev pub decreases-literals::holes_fit : goal.decreases-literals::holes_fit
decreases-literals::holes_fit l = measure (program_of l.world.now) l.world.now.left (holes_weight (to_holes (map hole_data l.holes.now))) 4

abbrev pub decreases-collections::list : goal.decreases-collections::list
decreases-collections::list l = measure (program_of l.world.now) l.world.now.left (elements_weight (to_elements (map element_data l.elements.now))) 5

abbrev pub decreases-collections::item : goal.decreases-collections::item
decreases-collections::item l = measure (program_of l.world.now) l.world.now.left (expr_weight (expr_data l.value.now)) 3

abbrev pub decreases-collections::items : goal.decreases-collections::items
decreases-collections::items l = measure (program_of l.world.now) l.world.now.left (elements_weight (to_elements (map element_data l.elements.now))) 4

abbrev pub decreases-collections::object : goal.decreases-collections::object
decreases-collections::object l = measure (program_of l.world.now) l.world.now.left (props_weight (to_props (map prop_data l.props.now))) 5

abbrev pub decreases-collections::property : goal.decreases-collections::property
decreases-collections::property l = measure (program_of l.world.now) l.world.now.left (prop_weight (prop_data l.prop.now)) 4

abbrev pub decreases-calls::after : goal.decreases-calls::after
decreases-calls::after l = measure (program_of l.world.now) l.world.now.left (parts_weight (to_parts (map part_data l.parts.now))) 5

abbrev pub decreases-calls::after_one : goal.decreases-calls::after_one
decreases-calls::after_one l = measure (program_of l.world.now) l.world.now.left (part_weight (part_data l.part.now)) 4

abbrev pub decreases-calls::at_index : goal.decreases-calls::at_index
decreases-calls::at_index l = measure (program_of l.world.now) l.world.now.left (expr_weight (expr_data l.index.now)) 3

abbrev pub decreases-calls::called : goal.decreases-calls::called
decreases-calls::called l = measure (program_of l.world.now) l.world.now.left (exprs_weight (to_exprs (map expr_data l.arguments.now))) 4

abbrev pub decreases-calls::subject_call : goal.decreases-calls::subject_call
decreases-calls::subject_call l = measure (program_of l.world.now) l.world.now.left (exprs_weight (to_exprs (map expr_data l.arguments.now))) 3

abbrev pub decreases-calls::method_call : goal.decreases-calls::method_call
decreases-calls::method_call l = measure (program_of l.world.now) l.world.now.left (exprs_weight (to_exprs (map expr_data l.arguments.now))) 2

abbrev pub decreases-calls::function_call : goal.decreases-calls::function_call
decreases-calls::function_call l = measure (program_of l.world.now) l.world.now.left (exprs_weight (to_exprs (map expr_data l.arguments.now))) 2

abbrev pub decreases-calls::ambient_call : goal.decreases-calls::ambient_call
decreases-calls::ambient_call l = measure (program_of l.world.now) l.world.now.left (exprs_weight (to_exprs (map expr_data l.arguments.now))) 2

abbrev pub decreases-calls::types_of : goal.decreases-calls::types_of
decreases-calls::types_of l = measure (program_of l.world.now) l.world.now.left (exprs_weight (to_exprs (map expr_data l.exprs.now))) 1

abbrev pub decreases-callbacks::with_callback : goal.decreases-callbacks::with_callback
decreases-callbacks::with_callback l = measure (program_of l.world.now) l.world.now.left (exprs_weight (to_exprs (map expr_data l.arguments.now))) 2

abbrev pub decreases-callbacks::callback_answer : goal.decreases-callbacks::callback_answer
decreases-callbacks::callback_answer l = measure (program_of l.world.now) l.world.now.left (expr_weight (expr_data l.callback.now)) 3

abbrev pub decreases-callbacks::arrow_answer : goal.decreases-callbacks::arrow_answer
decreases-callbacks::arrow_answer l = measure (program_of l.world.now) l.world.now.left 0 2

abbrev pub decreases-bodies::body : goal.decreases-bodies::body
decreases-bodies::body l = measure (program_of l.world.now) l.world.now.left (body_weight (body_data l.body.now)) 6

abbrev pub decreases-bodies::walked : goal.decreases-bodies::walked
decreases-bodies::walked l = measure (program_of l.world.now) l.world.now.left (body_weight (body_data l.body.now)) 5

abbrev pub decreases-statements::stmts : goal.decreases-statements::stmts
decreases-statements::stmts l = measure (program_of l.world.now) l.world.now.left (stmts_weight (to_stmts (map stmt_data l.stmts.now))) 4

abbrev pub decreases-statements::stmt : goal.decreases-statements::stmt
decreases-statements::stmt l = measure (program_of l.world.now) l.world.now.left (stmt_weight (stmt_data l.stmt.now)) 2

abbrev pub decreases-statements::nested : goal.decreases-statements::nested
decreases-statements::nested l = measure (program_of l.world.now) l.world.now.left (stmt_weight (stmt_data l.each.now)) 3

abbrev pub decreases-statements::choice : goal.decreases-statements::choice
decreases-statements::choice l = measure (program_of l.world.now) l.world.now.left (expr_weight (expr_data l.condition.now) + (stmt_weight (stmt_data l.one.now) + else_weight (maybe_of (option_copied l.other)))) 4

abbrev pub decreases-statements::each_of : goal.decreases-statements::each_of
decreases-statements::each_of l = measure (program_of l.world.now) l.world.now.left (expr_weight (expr_data l.list.now) + stmt_weight (stmt_data l.body.now)) 4

abbrev pub decreases-statements::alone : goal.decreases-statements::alone
decreases-statements::alone l = measure (program_of l.world.now) l.world.now.left (expr_weight (expr_data l.value.now)) 3

abbrev pub decreases-statements::returned : goal.decreases-statements::returned
decreases-statements::returned l = measure (program_of l.world.now) l.world.now.left (expr_weight (expr_data l.value.now)) 3

abbrev pub decreases-statements::returned_if : goal.decreases-statements::returned_if
decreases-statements::returned_if l = measure (program_of l.world.now) l.world.now.left (maybe_weight (option_map expr_data l.value.now)) 4

abbrev pub decreases-statements::variable : goal.decreases-statements::variable
decreases-statements::variable l = measure (program_of l.world.now) l.world.now.left (maybe_weight (option_map expr_data l.value.now)) 4

abbrev pub decreases-statements::declared : goal.decreases-statements::declared
decreases-statements::declared l = measure (program_of l.world.now) l.world.now.left (expr_weight (expr_data l.value.now)) 3

abbrev pub decreases-statements::assigned : goal.decreases-statements::assigned
decreases-statements::assigned l = measure (program_of l.world.now) l.world.now.left (expr_weight (expr_data l.value.now)) 3

abbrev pub decreases-statements::looped : goal.decreases-statements::looped
decreases-statements::looped l = measure (program_of l.world.now) l.world.now.left (expr_weight (expr_data l.list.now)) 3

abbrev pub invariant-exprs::chain-operands : goal.invariant-exprs::chain-operands
invariant-exprs::chain-operands l =
    ChainGoes l.fn.world l.fn.scene (expr_data l.fn.first) l.more l.operand-index l.here (expr_data l.left) l.t l.seen

abbrev pub invariant-literals::holes_fit-holes : goal.invariant-literals::holes_fit-holes
invariant-literals::holes_fit-holes l = HolesGo l.world l.scene l.allowed l.holes l.hole-index l.seen

abbrev pub invariant-collections::items-elements : goal.invariant-collections::items-elements
invariant-collections::items-elements l = ItemsGo l.world l.scene l.elements l.element-index l.types.items l.seen

abbrev pub invariant-collections::object-props : goal.invariant-collections::object-props
invariant-collections::object-props l = ObjectGoes l.world l.scene l.props l.prop-index (fields_now l.done) l.seen

abbrev pub invariant-calls::after-parts : goal.invariant-calls::after-parts
invariant-calls::after-parts l = AfterGoes l.world l.scene l.fn.found l.parts l.part-index l.found

abbrev pub invariant-calls::types_of-exprs : goal.invariant-calls::types_of-exprs
invariant-calls::types_of-exprs l = ArgumentsGo l.world l.scene l.exprs l.expr-index l.types.items l.seen

abbrev pub invariant-statements::stmts-stmts : goal.invariant-statements::stmts-stmts
invariant-statements::stmts-stmts l =
    StmtsGo l.world l.fn.scene (note_of (option_copied l.note)) l.fn.stmts l.fn.walk l.each-index l.here l.walk
