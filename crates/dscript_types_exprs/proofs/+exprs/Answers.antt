use Rattle.std.proofs.Common.{◌+◌, ◌<◌, ◌∙◌, IfOk, None, Option, Some, ap, arith, if◌then◌else◌, length, map, refl, subst, sym}
use Rattle.std.proofs.lemmas.List.{length-map}
use Rattle.std.specs.Option.{option_copied, option_map}
use Rattle.bx_tree.proofs.Lists.{none_left}
use Rattle.dscript_ast.specs.TypeTree.{TypeTree}
use Rattle.dscript_ast.specs.Views.{type_tree}
use Rattle.dscript_program.proofs.NodeViews.{expr_data-Arrow, expr_data-Chain, expr_data-Cond, expr_data-False, expr_data-List, expr_data-Name, expr_data-Number, expr_data-Object, expr_data-Path, expr_data-Postfix, expr_data-Str, expr_data-Template, expr_data-True, expr_data-Unary, expr_data-Undefined, part_data-Call, part_data-Index, part_data-Member, prop_data-Named, prop_data-Quoted, prop_data-Short, prop_data-Spread, stmt_data-Assign, stmt_data-Block, stmt_data-Const, stmt_data-Empty, stmt_data-For, stmt_data-If, stmt_data-Let, stmt_data-Return, stmt_data-Value}
use Rattle.dscript_program.specs.BoundTree.{to_elements, to_exprs, to_holes, to_operands, to_parts, to_props, to_stmts}
use Rattle.dscript_program.specs.BoundTree as tree
use Rattle.dscript_program.specs.ProgramData.{ProgramData}
use Rattle.dscript_program.specs.Views.{body_data, element_data, expr_data, function_data, hole_data, operand_data, part_data, prop_data, stmt_data}
use Rattle.dscript_sdk_members.specs.Names.{member_named}
use Rattle.dscript_types_data.specs.Views.{field_data, fields_now}
use Rattle.dscript_types_known.specs.Views.{finding_data}
use Rattle.dscript_types_known.specs.declared.locals.Hold.TheVariants as holds
use Rattle.dscript_types_meaning.specs.Access.{indexed, method_type}
use Rattle.dscript_types_meaning.specs.Ambients.{ambient_type}
use Rattle.dscript_types_meaning.specs.Bodies.{Alone, Assigned, Declared, Looped, Returned, after_stmt, body_uses, fits_note, stmt_uses, stmts_uses, type_of_value}
use Rattle.dscript_types_meaning.specs.Bodies as bodies
use Rattle.dscript_types_meaning.specs.Contexts.{◌>>=◌, Fixed, Variable, only, with_local}
use Rattle.dscript_types_meaning.specs.Expressions.{expr_type, fields, subject, subject_call}
use Rattle.dscript_types_meaning.specs.Expressions as rules
use Rattle.dscript_types_meaning.specs.Functions as functions
use Rattle.dscript_types_meaning.specs.Operators.{boolean_type, literal_hole, number_type, template_hole, text_type}
use Rattle.dscript_types_meaning.specs.Types.{never}
use Rattle.dscript_types_meaning.specs.Unions.{is_never, join_all, undefined_type}
use Rattle.dscript_types_meaning.specs.declared.limits.TheConstants.{MAX_TYPE_NODES}
use Rattle.dscript_types_notes.proofs.Going.{if_ok}
use Rattle.dscript_types_notes.specs.Means.{program_of}
use Rattle.dscript_types_scenes.proofs.Answering.{finds_as, function_there, got, no_function_there}
use Rattle.dscript_types_scenes.proofs.Going.{both_seen}
use Rattle.dscript_types_scenes.proofs.Weights.{below_measure, body_weight, element_lighter, element_weight, elements_weight, else_weight, expr_lighter, expr_weight, exprs_weight, hole_lighter, hole_weight, holes_weight, maybe_weight, measure, operand_lighter, operand_weight, operands_weight, part_lighter, part_weight, parts_weight, prop_lighter, prop_weight, props_weight, stmt_lighter, stmt_weight, stmts_weight}
use Rattle.dscript_types_scenes.specs.Functions.{FindsScene, inferred_from, target_answer, types_in}
use Rattle.dscript_types_scenes.specs.Holes.{after_typing, hole_type}
use Rattle.dscript_types_scenes.specs.Scenes.{FindsAs, IsBelow, TypesAs}
use Rattle.dscript_types_scenes.specs.Shapes.{Chain, Name, Other, Unary, Undefined, shape_data}
use Rattle.dscript_types_scenes.specs.Statements.{maybe_of, note_of}
use Rattle.dscript_types_scenes.specs.Subjects.{is_whole, only_found}
use Rattle.dscript_types_scenes.specs.Typings.{subject_data}
use Rattle.dscript_types_scenes.specs.Walks.{RulesAs, finding_types}
use Rattle.dscript_types_scenes.specs.declared.found.Typing.TheVariants as typings
use Rattle.dscript_types_scenes.specs.declared.walk.Rule.TheVariants as ruled
use Rattle.dscript_types_exprs.proofs.Afters.{after_begin, after_end, after_goes, call_after, index_after, member_after, part_as}
use Rattle.dscript_types_exprs.proofs.Arrowing.{arrow_lowest, arrow_nowhere, arrow_opens, arrow_told, context_of}
use Rattle.dscript_types_exprs.proofs.Backing.{CalledBack, answers_as, arrow_answers, back_alone, back_found, back_no_list, back_none, back_not_given, back_nothing, back_open, back_opens, no_arrow_answers, no_callback}
use Rattle.dscript_types_exprs.proofs.Below.{same_program, sound_below}
use Rattle.dscript_types_exprs.proofs.Called.{ambient_called, any_rule, declared_call, following_as, given_is, goes_seen, name_as_value, named_call, value_call}
use Rattle.dscript_types_exprs.proofs.Calling.{after_nothing, after_open, finds_nothing, finds_open, finds_value, part_is, part_nothing, part_open}
use Rattle.dscript_types_exprs.proofs.Chaining.{chain_begins, chain_ends, chain_goes, chain_nothing, chain_of, chain_open, chain_opens, chain_seen, chain_stops}
use Rattle.dscript_types_exprs.proofs.Choosing.{choice_found, choice_nothing, choice_open, choice_second_nothing, choice_second_open, choice_third_nothing, choice_third_open, operand_found, operand_nothing, operand_of, operand_open, prefixes_found, prefixes_nothing, prefixes_open, typed_as, value_of}
use Rattle.dscript_types_exprs.proofs.Declaring.{after_let, declares, goes_none, goes_some, let_uses, return_uses, stays, stmts_begin, stmts_end, stmts_go, use_out, use_over, uses_of_block, uses_of_expr, walks_as, walks_each, walks_either, walks_if}
use Rattle.dscript_types_exprs.proofs.Holing.{after_holes_as, hole_in, hole_is_found, hole_is_nothing, hole_is_open, hole_is_refused, holes_begin, holes_end_at, holes_go_on, holes_open_at, holes_stop_at, literal_nothing, literal_open, literal_plain, literal_then, literal_then_nothing, literal_then_open, value_in}
use Rattle.dscript_types_exprs.proofs.Inferred.{body_answers, body_is_right, walks_from_nothing}
use Rattle.dscript_types_exprs.proofs.Listing.{arguments_begin, arguments_end, arguments_go, arguments_open, arguments_stop, item_no_list, item_nothing, item_open, item_plain, item_spread, item_value, items_begin, items_end, items_go, items_of_row, items_open, items_stop, list_found, list_nothing, list_open}
use Rattle.dscript_types_exprs.proofs.Objects.{holds_value, object_begin, object_end, object_goes, object_many, object_of, object_open, object_stop, spread_fails, spread_nothing, spread_of, spread_open, spread_writes}
use Rattle.dscript_types_exprs.proofs.Ruled.{items_found, loop_says, no_note_says, note_says, noted_value, value_found, variable_says}
use Rattle.dscript_types_exprs.proofs.Same.{added_as, answer_as, literal_as, property_as, whole_with}
use Rattle.dscript_types_exprs.proofs.Walking.{walks_none}
use Rattle.dscript_types_exprs.proofs.Written.{as_found, as_value, no_node, of_a_kind, of_node, parts_after, subject_of}
use Rattle.dscript_types_exprs.specs.Calls.{GoesOn, SeesOn, call_subject, index_subject}
use Rattle.dscript_types_exprs.specs.Parts.{item_type, items_now, nothing}
use Rattle.dscript_types_exprs.specs.Statements.{type_of_variable, use_of, value_uses}
use Rattle.dscript_types_exprs.specs.Walks.{Walks}
use Rattle.dscript_types_exprs.proofs.+exprs.Goals as goal

pub exprs::subject-returns-in-Number : goal.exprs::subject-returns-in-Number
unfolding subject
exprs::subject-returns-in-Number t c =
    of_node c.args.world.now c.args.scene.now (tree.Number c.in-Number.field-0) _ _ (sym (ap expr_data c.in-Number.is ∙ expr_data-Number _))
    (of_a_kind c.args.world.now c.args.scene.now (tree.Number c.in-Number.field-0) number_type _ (λ p known d. refl) c.of_kind.ensures)

pub exprs::subject-returns-in-Str : goal.exprs::subject-returns-in-Str
unfolding subject
exprs::subject-returns-in-Str t c =
    of_node c.args.world.now c.args.scene.now (tree.Str c.in-Str.field-0) _ _ (sym (ap expr_data c.in-Str.is ∙ expr_data-Str _))
    (of_a_kind c.args.world.now c.args.scene.now (tree.Str c.in-Str.field-0) text_type _ (λ p known d. refl) c.of_kind-in-Str.ensures)

pub exprs::subject-returns-in-True : goal.exprs::subject-returns-in-True
unfolding subject
exprs::subject-returns-in-True t c =
    of_node c.args.world.now c.args.scene.now tree.True _ _ (sym (ap expr_data c.in-True.is ∙ expr_data-True))
    (of_a_kind c.args.world.now c.args.scene.now tree.True boolean_type _ (λ p known d. refl) c.of_kind-in-True.ensures)

pub exprs::subject-returns-in-False : goal.exprs::subject-returns-in-False
unfolding subject
exprs::subject-returns-in-False t c =
    of_node c.args.world.now c.args.scene.now tree.False _ _ (sym (ap expr_data c.in-False.is ∙ expr_data-False))
    (of_a_kind c.args.world.now c.args.scene.now tree.False boolean_type _ (λ p known d. refl) c.of_kind-in-False.ensures)

pub exprs::subject-returns-in-Undefined : goal.exprs::subject-returns-in-Undefined
unfolding subject
exprs::subject-returns-in-Undefined t c =
    of_node c.args.world.now c.args.scene.now tree.Undefined _ _ (sym (ap expr_data c.in-Undefined.is ∙ expr_data-Undefined))
    (of_a_kind c.args.world.now c.args.scene.now tree.Undefined undefined_type _ (λ p known d. refl) c.of_kind-in-Undefined.ensures)

pub exprs::subject-returns-in-Template : goal.exprs::subject-returns-in-Template
unfolding subject
exprs::subject-returns-in-Template t c =
    of_node c.args.world.now c.args.scene.now _ _ _
    (ap (λ hs. tree.Template c.in-Template.text (to_holes (map hole_data hs))) c.as_slice.ensures.value
    ∙ sym (ap expr_data c.in-Template.is ∙ expr_data-Template _ _))
    c.template.ensures

pub exprs::subject-returns-in-Path : goal.exprs::subject-returns-in-Path
unfolding subject
exprs::subject-returns-in-Path t c =
    of_node c.args.world.now c.args.scene.now _ _ _
    (ap (λ hs. tree.Path c.in-Path.letter c.in-Path.text (to_holes (map hole_data hs))) c.as_slice-in-Path.ensures.value
    ∙ sym (ap expr_data c.in-Path.is ∙ expr_data-Path _ _ _))
    c.literal.ensures

pub exprs::subject-returns-in-List : goal.exprs::subject-returns-in-List
unfolding subject
exprs::subject-returns-in-List t c =
    of_node c.args.world.now c.args.scene.now _ _ _
    (ap (λ es. tree.Elements (to_elements (map element_data es))) c.as_slice-in-List.ensures.value
    ∙ sym (ap expr_data c.in-List.is ∙ expr_data-List _))
    c.list.ensures

pub exprs::subject-returns-in-Object : goal.exprs::subject-returns-in-Object
unfolding subject
exprs::subject-returns-in-Object t c =
    of_node c.args.world.now c.args.scene.now _ _ _
    (ap (λ ps. tree.Object (to_props (map prop_data ps))) c.as_slice-in-Object.ensures.value
    ∙ sym (ap expr_data c.in-Object.is ∙ expr_data-Object _))
    c.object.ensures

pub exprs::subject-returns-in-Name : goal.exprs::subject-returns-in-Name
unfolding subject
exprs::subject-returns-in-Name t c =
    of_node c.args.world.now c.args.scene.now _ _ _
    (sym (ap expr_data c.in-Name.is ∙ expr_data-Name _))
    c.named.ensures

pub exprs::subject-returns-in-Arrow : goal.exprs::subject-returns-in-Arrow
unfolding subject
exprs::subject-returns-in-Arrow t c =
    no_node c.args.world.now c.args.scene.now (tree.Arrow _) _ (sym (ap expr_data c.in-Arrow.is ∙ expr_data-Arrow _)) (λ p known d. refl)

pub exprs::subject-returns-in-Cond : goal.exprs::subject-returns-in-Cond
unfolding subject
exprs::subject-returns-in-Cond t c =
    of_node c.args.world.now c.args.scene.now _ _ _
    (ap (λ e. tree.Cond (expr_data e) (expr_data c.deref-in-Cond.result.now) (expr_data c.deref-in-Cond-2.result.now)) c.deref.ensures
    ∙ ap (λ e. tree.Cond (expr_data c.in-Cond.x.value) (expr_data e) (expr_data c.deref-in-Cond-2.result.now)) c.deref-in-Cond.ensures
    ∙ ap (λ e. tree.Cond (expr_data c.in-Cond.x.value) (expr_data c.in-Cond.a.value) (expr_data e)) c.deref-in-Cond-2.ensures
    ∙ sym (ap expr_data c.in-Cond.is ∙ expr_data-Cond _ _ _))
    c.choice.ensures

pub exprs::subject-returns-in-Chain : goal.exprs::subject-returns-in-Chain
unfolding subject
exprs::subject-returns-in-Chain t c =
    of_node c.args.world.now c.args.scene.now _ _ _
    (ap (λ os. tree.Chain (expr_data c.deref-in-Chain.result.now) (to_operands (map operand_data os))) c.as_slice-in-Chain.ensures.value
    ∙ ap (λ e. tree.Chain (expr_data e) (to_operands (map operand_data c.in-Chain.more.items))) c.deref-in-Chain.ensures
    ∙ sym (ap expr_data c.in-Chain.is ∙ expr_data-Chain _ _))
    c.chain.ensures

pub exprs::subject-returns-in-Unary : goal.exprs::subject-returns-in-Unary
unfolding subject
exprs::subject-returns-in-Unary t c =
    of_node c.args.world.now c.args.scene.now _ _ _
    (ap (λ ops. tree.Unary ops (expr_data c.deref-in-Unary.result.now)) c.as_slice-in-Unary.ensures.value
    ∙ ap (λ e. tree.Unary c.in-Unary.operators.items (expr_data e)) c.deref-in-Unary.ensures
    ∙ sym (ap expr_data c.in-Unary.is ∙ expr_data-Unary _ _))
    c.with_prefixes.ensures

pub exprs::subject-returns-in_ok-found-in-Postfix : goal.exprs::subject-returns-in_ok-found-in-Postfix
unfolding subject
exprs::subject-returns-in_ok-found-in-Postfix t c =
    of_node c.args.world.now c.args.scene.now _ _ _
    (ap (λ ps. tree.Postfix (expr_data c.deref-in-Postfix.result.now) (to_parts (map part_data ps))) c.as_slice-in-Postfix.ensures.value
    ∙ ap (λ e. tree.Postfix (expr_data e) (to_parts (map part_data c.in-Postfix.parts.items))) c.deref-in-Postfix.ensures
    ∙ sym (ap expr_data c.in-Postfix.is ∙ expr_data-Postfix _ _))
    (if_ok _ _ _ (λ end goes. parts_after c.args.world.now c.args.scene.now (expr_data c.deref-in-Postfix.result.now) (to_parts (map part_data c.as_slice-in-Postfix.result.now)) _ end c.in_ok-found-in-Postfix.ensures goes) c.after.ensures)

pub exprs::subject-template-requires : goal.exprs::subject-template-requires
exprs::subject-template-requires t c =
    (omega (arith, ap expr_weight (ap expr_data c.in-Template.is ∙ expr_data-Template _ _), ap (λ xs. holes_weight (to_holes (map hole_data xs))) c.as_slice.ensures.value, c.decreases), c.requires)

pub exprs::subject-literal-requires : goal.exprs::subject-literal-requires
exprs::subject-literal-requires t c =
    (omega (arith, ap expr_weight (ap expr_data c.in-Path.is ∙ expr_data-Path _ _ _), ap (λ xs. holes_weight (to_holes (map hole_data xs))) c.as_slice-in-Path.ensures.value, c.decreases), c.requires)

pub exprs::subject-list-requires : goal.exprs::subject-list-requires
exprs::subject-list-requires t c =
    (omega (arith, ap expr_weight (ap expr_data c.in-List.is ∙ expr_data-List _), ap (λ xs. elements_weight (to_elements (map element_data xs))) c.as_slice-in-List.ensures.value, c.decreases), c.requires)

pub exprs::subject-object-requires : goal.exprs::subject-object-requires
exprs::subject-object-requires t c =
    (omega (arith, ap expr_weight (ap expr_data c.in-Object.is ∙ expr_data-Object _), ap (λ xs. props_weight (to_props (map prop_data xs))) c.as_slice-in-Object.ensures.value, c.decreases), c.requires)

pub exprs::subject-choice-requires : goal.exprs::subject-choice-requires
exprs::subject-choice-requires t c =
    (omega (arith, ap expr_weight (ap expr_data c.in-Cond.is ∙ expr_data-Cond _ _ _), ap (λ e. expr_weight (expr_data e)) c.deref.ensures, ap (λ e. expr_weight (expr_data e)) c.deref-in-Cond.ensures, ap (λ e. expr_weight (expr_data e)) c.deref-in-Cond-2.ensures, c.decreases), c.requires)

pub exprs::subject-chain-requires : goal.exprs::subject-chain-requires
exprs::subject-chain-requires t c =
    (omega (arith, ap expr_weight (ap expr_data c.in-Chain.is ∙ expr_data-Chain _ _), ap (λ xs. operands_weight (to_operands (map operand_data xs))) c.as_slice-in-Chain.ensures.value, ap (λ e. expr_weight (expr_data e)) c.deref-in-Chain.ensures, c.decreases), c.requires)

pub exprs::subject-with_prefixes-requires : goal.exprs::subject-with_prefixes-requires
exprs::subject-with_prefixes-requires t c =
    (omega (arith, ap expr_weight (ap expr_data c.in-Unary.is ∙ expr_data-Unary _ _), ap (λ e. expr_weight (expr_data e)) c.deref-in-Unary.ensures, c.decreases), c.requires)

pub exprs::subject-subject-requires : goal.exprs::subject-subject-requires
exprs::subject-subject-requires t c =
    (omega (arith, ap expr_weight (ap expr_data c.in-Postfix.is ∙ expr_data-Postfix _ _), ap (λ e. expr_weight (expr_data e)) c.deref-in-Postfix.ensures, c.decreases), c.requires)

pub exprs::subject-after-requires : goal.exprs::subject-after-requires
exprs::subject-after-requires t c =
    (omega (arith, ap expr_weight (ap expr_data c.in-Postfix.is ∙ expr_data-Postfix _ _), ap (λ xs. parts_weight (to_parts (map part_data xs))) c.as_slice-in-Postfix.ensures.value, c.decreases), c.requires)

pub exprs::type_of-returns : goal.exprs::type_of-returns
exprs::type_of-returns t c =
    if_ok _ _ _ (λ typing is. as_value c.args.world.now c.args.scene.now (expr_data c.args.expr.now) _ typing c.in_ok-subject.ensures is) c.whole.ensures

pub exprs::choice-returns-in-Nothing : goal.exprs::choice-returns-in-Nothing
exprs::choice-returns-in-Nothing t c =
    choice_nothing c.args.world.now c.args.scene.now (expr_data c.args.condition.now) (expr_data c.args.one.now) (expr_data c.args.other.now) (as_found typed_as c.args.world.now c.args.scene.now (value_of (expr_data c.args.condition.now)) _ _ c.in-Nothing.is c.in_ok-seen.ensures)

pub exprs::choice-returns-in-Open : goal.exprs::choice-returns-in-Open
exprs::choice-returns-in-Open t c =
    choice_open c.args.world.now c.args.scene.now (expr_data c.args.condition.now) (expr_data c.args.one.now) (expr_data c.args.other.now) c.in-Open.pending (as_found typed_as c.args.world.now c.args.scene.now (value_of (expr_data c.args.condition.now)) _ _ c.in-Open.is c.in_ok-seen.ensures)

pub exprs::choice-returns-in-Nothing-2 : goal.exprs::choice-returns-in-Nothing-2
exprs::choice-returns-in-Nothing-2 t c =
    choice_second_nothing c.args.world.now c.args.scene.now (expr_data c.args.condition.now) (expr_data c.args.one.now) (expr_data c.args.other.now) _ c.in-Found.seen (as_found typed_as c.args.world.now c.args.scene.now (value_of (expr_data c.args.condition.now)) _ _ c.in-Found.is c.in_ok-seen.ensures) _ (c.in_ok-narrowed.ensures c.args.world.now) (as_found typed_as c.args.world.now _ (value_of (expr_data c.args.one.now)) _ _ c.in-Nothing-2.is c.in_ok-t.ensures)

pub exprs::choice-returns-in-Open-2 : goal.exprs::choice-returns-in-Open-2
exprs::choice-returns-in-Open-2 t c =
    choice_second_open c.args.world.now c.args.scene.now (expr_data c.args.condition.now) (expr_data c.args.one.now) (expr_data c.args.other.now) _ c.in-Found.seen (as_found typed_as c.args.world.now c.args.scene.now (value_of (expr_data c.args.condition.now)) _ _ c.in-Found.is c.in_ok-seen.ensures) _ (c.in_ok-narrowed.ensures c.args.world.now) c.in-Open-2.pending (as_found typed_as c.args.world.now _ (value_of (expr_data c.args.one.now)) _ _ c.in-Open-2.is c.in_ok-t.ensures)

pub exprs::choice-returns-in-Nothing-3 : goal.exprs::choice-returns-in-Nothing-3
exprs::choice-returns-in-Nothing-3 t c =
    choice_third_nothing c.args.world.now c.args.scene.now (expr_data c.args.condition.now) (expr_data c.args.one.now) (expr_data c.args.other.now) _ c.in-Found.seen (as_found typed_as c.args.world.now c.args.scene.now (value_of (expr_data c.args.condition.now)) _ _ c.in-Found.is c.in_ok-seen.ensures) _ (c.in_ok-narrowed.ensures c.args.world.now) c.in-Found-2.t c.in-Found-2.seen (as_found typed_as c.args.world.now _ (value_of (expr_data c.args.one.now)) _ _ c.in-Found-2.is c.in_ok-t.ensures) _ (c.in_ok-narrowed-2.ensures c.args.world.now) (as_found typed_as c.args.world.now _ (value_of (expr_data c.args.other.now)) _ _ c.in-Nothing-3.is c.in_ok-u.ensures)

pub exprs::choice-returns-in-Open-3 : goal.exprs::choice-returns-in-Open-3
exprs::choice-returns-in-Open-3 t c =
    choice_third_open c.args.world.now c.args.scene.now (expr_data c.args.condition.now) (expr_data c.args.one.now) (expr_data c.args.other.now) _ c.in-Found.seen (as_found typed_as c.args.world.now c.args.scene.now (value_of (expr_data c.args.condition.now)) _ _ c.in-Found.is c.in_ok-seen.ensures) _ (c.in_ok-narrowed.ensures c.args.world.now) c.in-Found-2.t c.in-Found-2.seen (as_found typed_as c.args.world.now _ (value_of (expr_data c.args.one.now)) _ _ c.in-Found-2.is c.in_ok-t.ensures) _ (c.in_ok-narrowed-2.ensures c.args.world.now) c.in-Open-3.pending (as_found typed_as c.args.world.now _ (value_of (expr_data c.args.other.now)) _ _ c.in-Open-3.is c.in_ok-u.ensures)

pub exprs::choice-returns : goal.exprs::choice-returns
exprs::choice-returns t c =
    subst (λ found. TypesAs subject_data c.args.world.now c.args.scene.now found (subject_of c.args.world.now c.args.scene.now (tree.Cond (expr_data c.args.condition.now) (expr_data c.args.one.now) (expr_data c.args.other.now))))
    (sym (c.is.ensures ∙ ap (λ s. is_whole (only_found c.within_limit.result s))
    (c.and-2.ensures ∙ ap (λ s. both_seen s c.in-Found-3.seen) c.and.ensures)))
    (choice_found c.args.world.now c.args.scene.now (expr_data c.args.condition.now) (expr_data c.args.one.now) (expr_data c.args.other.now) _ c.in-Found.seen (as_found typed_as c.args.world.now c.args.scene.now (value_of (expr_data c.args.condition.now)) _ _ c.in-Found.is c.in_ok-seen.ensures) _ (c.in_ok-narrowed.ensures c.args.world.now) c.in-Found-2.t c.in-Found-2.seen (as_found typed_as c.args.world.now _ (value_of (expr_data c.args.one.now)) _ _ c.in-Found-2.is c.in_ok-t.ensures) _ (c.in_ok-narrowed-2.ensures c.args.world.now) c.in-Found-3.u c.in-Found-3.seen _ _ (as_found typed_as c.args.world.now _ (value_of (expr_data c.args.other.now)) _ _ c.in-Found-3.is c.in_ok-u.ensures) c.in_ok-join.ensures c.within_limit.ensures)

pub exprs::operand_type-returns-in_ok-operated-in-Found : goal.exprs::operand_type-returns-in_ok-operated-in-Found
exprs::operand_type-returns-in_ok-operated-in-Found t c =
    subst (λ found. TypesAs typed_as c.args.world.now c.args.scene.now found (operand_of c.args.world.now c.args.scene.now (expr_data c.args.value.now) c.args.operator c.args.t.now)) (sym c.only.ensures)
    (operand_found c.args.world.now c.args.scene.now (expr_data c.args.value.now) c.args.operator c.args.t.now c.in-Found.u c.in-Found.seen _ (as_found typed_as c.args.world.now c.args.scene.now (value_of (expr_data c.args.value.now)) _ _ c.in-Found.is c.in_ok-u.ensures) c.in_ok-operated-in-Found.ensures)

pub exprs::operand_type-returns-in-Nothing : goal.exprs::operand_type-returns-in-Nothing
exprs::operand_type-returns-in-Nothing t c =
    operand_nothing c.args.world.now c.args.scene.now (expr_data c.args.value.now) c.args.operator c.args.t.now (as_found typed_as c.args.world.now c.args.scene.now (value_of (expr_data c.args.value.now)) _ _ c.in-Nothing.is c.in_ok-u.ensures)

pub exprs::operand_type-returns-in-Open : goal.exprs::operand_type-returns-in-Open
exprs::operand_type-returns-in-Open t c =
    operand_open c.args.world.now c.args.scene.now (expr_data c.args.value.now) c.args.operator c.args.t.now c.in-Open.pending (as_found typed_as c.args.world.now c.args.scene.now (value_of (expr_data c.args.value.now)) _ _ c.in-Open.is c.in_ok-u.ensures)

pub exprs::chain-returns-in-Nothing : goal.exprs::chain-returns-in-Nothing
exprs::chain-returns-in-Nothing t c =
    chain_nothing c.args.world.now c.args.scene.now (expr_data c.args.first.now) c.args.more.now (as_found typed_as c.args.world.now c.args.scene.now (value_of (expr_data c.args.first.now)) _ _ c.in-Nothing.is c.in_ok-t.ensures)

pub exprs::chain-returns-in-Open : goal.exprs::chain-returns-in-Open
exprs::chain-returns-in-Open t c =
    chain_open c.args.world.now c.args.scene.now (expr_data c.args.first.now) c.args.more.now c.in-Open.pending (as_found typed_as c.args.world.now c.args.scene.now (value_of (expr_data c.args.first.now)) _ _ c.in-Open.is c.in_ok-t.ensures)

pub exprs::chain-operands-init : goal.exprs::chain-operands-init
exprs::chain-operands-init t c =
    chain_begins c.args.world.now c.args.scene.now (expr_data c.args.first.now) c.args.more.now _ c.in-Found.t c.in-Found.seen c.in_ok-here.ensures (as_found typed_as c.args.world.now c.args.scene.now (value_of (expr_data c.args.first.now)) _ _ c.in-Found.is c.in_ok-t.ensures)

pub exprs::chain-operands-preserved : goal.exprs::chain-operands-preserved
exprs::chain-operands-preserved t c =
    chain_seen c.args.world.now c.args.scene.now (expr_data c.args.first.now) c.args.more.now (c.operands.operand-index + 1) _ _ _ _ _ c.and-seen.ensures
    (chain_goes c.args.world.now c.args.scene.now (expr_data c.args.first.now) c.args.more.now c.operands.operand-index c.operands.here (expr_data c.operands.left.now) c.operands.t c.operands.seen c.operands.invariant c.operand-item.result c.operands-test.true c.operand-item.is _ _ c.operand_parts-operator.ensures _ (following_as c.args.world.now c.operands.here _ (expr_data c.operands.left.now) (to_operands (map operand_data c.args.more.now)) _ c.outcome_of-outcome.ensures (c.in_ok-here-2.ensures c.args.world.now)) c.in-Found-2.answer c.in-Found-2.further (as_found typed_as c.args.world.now _ (operand_of c.args.world.now c.args.scene.now _ _ _) _ _ c.in-Found-2.is c.in_ok-answer.ensures))

pub exprs::chain-returns-in-Nothing-2 : goal.exprs::chain-returns-in-Nothing-2
exprs::chain-returns-in-Nothing-2 t c =
    chain_stops c.args.world.now c.args.scene.now (expr_data c.args.first.now) c.args.more.now c.operands.operand-index c.operands.here (expr_data c.operands.left.now) c.operands.t c.operands.seen c.operands.invariant c.operand-item.result c.operands-test.true c.operand-item.is _ _ c.operand_parts-operator.ensures _ (following_as c.args.world.now c.operands.here _ (expr_data c.operands.left.now) (to_operands (map operand_data c.args.more.now)) _ c.outcome_of-outcome.ensures (c.in_ok-here-2.ensures c.args.world.now)) (as_found typed_as c.args.world.now _ (operand_of c.args.world.now c.args.scene.now _ _ _) _ _ c.in-Nothing-2.is c.in_ok-answer.ensures)

pub exprs::chain-returns-in-Open-2 : goal.exprs::chain-returns-in-Open-2
exprs::chain-returns-in-Open-2 t c =
    chain_opens c.args.world.now c.args.scene.now (expr_data c.args.first.now) c.args.more.now c.operands.operand-index c.operands.here (expr_data c.operands.left.now) c.operands.t c.operands.seen c.operands.invariant c.operand-item.result c.operands-test.true c.operand-item.is _ _ c.operand_parts-operator.ensures _ (following_as c.args.world.now c.operands.here _ (expr_data c.operands.left.now) (to_operands (map operand_data c.args.more.now)) _ c.outcome_of-outcome.ensures (c.in_ok-here-2.ensures c.args.world.now)) c.in-Open-2.pending (as_found typed_as c.args.world.now _ (operand_of c.args.world.now c.args.scene.now _ _ _) _ _ c.in-Open-2.is c.in_ok-answer.ensures)

pub exprs::chain-returns : goal.exprs::chain-returns
exprs::chain-returns t c =
    subst (λ found. TypesAs subject_data c.args.world.now c.args.scene.now found (chain_of c.args.world.now c.args.scene.now (expr_data c.args.first.now) c.args.more.now)) (sym c.is.ensures)
    (chain_ends c.args.world.now c.args.scene.now (expr_data c.args.first.now) c.args.more.now c.operands.operand-index c.operands.here _ c.operands.t c.operands.seen c.operands-test.false c.operands.invariant)

pub exprs::chain-operand_type-requires : goal.exprs::chain-operand_type-requires
exprs::chain-operand_type-requires t c =
    (omega (arith, operand_lighter c.args.more.now c.operands.operand-index c.operand-item.result c.operands-test.true c.operand-item.is, ap operand_weight c.operand_parts-operator.ensures, c.decreases), c.requires)

pub exprs::with_prefixes-returns-in_ok-prefixed-in-Found : goal.exprs::with_prefixes-returns-in_ok-prefixed-in-Found
exprs::with_prefixes-returns-in_ok-prefixed-in-Found t c =
    subst (λ found. TypesAs subject_data c.args.world.now c.args.scene.now found (subject_of c.args.world.now c.args.scene.now (tree.Unary c.args.operators.now (expr_data c.args.operand.now)))) (sym c.is.ensures)
    (prefixes_found c.args.world.now c.args.scene.now (expr_data c.args.operand.now) c.args.operators.now c.in-Found.t c.in-Found.seen _ (as_found typed_as c.args.world.now c.args.scene.now (value_of (expr_data c.args.operand.now)) _ _ c.in-Found.is c.in_ok-t.ensures) c.in_ok-prefixed-in-Found.ensures)

pub exprs::with_prefixes-returns-in-Nothing : goal.exprs::with_prefixes-returns-in-Nothing
exprs::with_prefixes-returns-in-Nothing t c =
    prefixes_nothing c.args.world.now c.args.scene.now (expr_data c.args.operand.now) c.args.operators.now (as_found typed_as c.args.world.now c.args.scene.now (value_of (expr_data c.args.operand.now)) _ _ c.in-Nothing.is c.in_ok-t.ensures)

pub exprs::with_prefixes-returns-in-Open : goal.exprs::with_prefixes-returns-in-Open
exprs::with_prefixes-returns-in-Open t c =
    prefixes_open c.args.world.now c.args.scene.now (expr_data c.args.operand.now) c.args.operators.now c.in-Open.pending (as_found typed_as c.args.world.now c.args.scene.now (value_of (expr_data c.args.operand.now)) _ _ c.in-Open.is c.in_ok-t.ensures)

pub literals::template-returns : goal.literals::template-returns
unfolding subject
literals::template-returns t c =
    if_ok _ _ _ (λ end is. after_holes_as c.args.world.now c.args.scene.now _ end text_type (λ p known d. rules.holes_fit p known d template_hole (to_holes (map hole_data c.args.holes.now))) c.in_ok-found.ensures is) c.after_holes.ensures

pub literals::literal-returns : goal.literals::literal-returns
unfolding subject
literals::literal-returns t c =
    if_ok _ _ _
    (λ end is. after_holes_as c.args.world.now c.args.scene.now _ end (rules.letter_type c.args.letter) (λ p known d. rules.literal_fits p known d (rules.first_hole c.args.letter c.args.text.now) (to_holes (map hole_data c.args.holes.now)))
    (literal_as c.args.world.now c.args.scene.now _ (hole_type c.first_hole.result) (rules.first_hole c.args.letter c.args.text.now) (to_holes (map hole_data c.args.holes.now)) c.first_hole.ensures c.in_ok-found.ensures)
    (is ∙ ap (after_typing _) c.letter_kind.ensures))
    c.after_holes.ensures

pub literals::hole_fits-returns-then-may_hold : goal.literals::hole_fits-returns-then-may_hold
literals::hole_fits-returns-then-may_hold t c =
    hole_is_found c.args.world.now c.args.scene.now c.args.allowed (expr_data c.args.value.now) c.in-Found.t c.in-Found.seen _ (as_found typed_as c.args.world.now c.args.scene.now (value_in (expr_data c.args.value.now)) _ _ c.in-Found.is c.in_ok-t.ensures) c.may_hold.ensures c.if-may_hold.true

pub literals::hole_fits-returns-in-Found : goal.literals::hole_fits-returns-in-Found
literals::hole_fits-returns-in-Found t c =
    hole_is_refused c.args.world.now c.args.scene.now c.args.allowed (expr_data c.args.value.now) c.in-Found.t c.in-Found.seen _ (as_found typed_as c.args.world.now c.args.scene.now (value_in (expr_data c.args.value.now)) _ _ c.in-Found.is c.in_ok-t.ensures) c.may_hold.ensures c.if-may_hold.false

pub literals::hole_fits-returns-in-Nothing : goal.literals::hole_fits-returns-in-Nothing
literals::hole_fits-returns-in-Nothing t c =
    hole_is_nothing c.args.world.now c.args.scene.now c.args.allowed (expr_data c.args.value.now) (as_found typed_as c.args.world.now c.args.scene.now (value_in (expr_data c.args.value.now)) _ _ c.in-Nothing.is c.in_ok-t.ensures)

pub literals::hole_fits-returns : goal.literals::hole_fits-returns
literals::hole_fits-returns t c =
    hole_is_open c.args.world.now c.args.scene.now c.args.allowed (expr_data c.args.value.now) c.in-Open.pending (as_found typed_as c.args.world.now c.args.scene.now (value_in (expr_data c.args.value.now)) _ _ c.in-Open.is c.in_ok-t.ensures)

pub literals::holes_fit-holes-init : goal.literals::holes_fit-holes-init
literals::holes_fit-holes-init t c =
    holes_begin c.args.world.now c.args.scene.now c.args.allowed c.args.holes.now _ c.from_rank-seen.ensures

pub literals::holes_fit-holes-preserved : goal.literals::holes_fit-holes-preserved
literals::holes_fit-holes-preserved t c =
    holes_go_on c.args.world.now c.args.scene.now c.args.allowed c.args.holes.now c.holes.hole-index c.holes.seen c.holes.invariant c.hole-item.result c.holes-test.true c.hole-item.is _ _ c.hole_parts.ensures c.in-Found.further _ (as_found nothing c.args.world.now c.args.scene.now (hole_in c.args.world.now c.args.scene.now c.args.allowed _) _ _ c.in-Found.is c.in_ok-further.ensures) c.and-seen.ensures

pub literals::holes_fit-returns-in-Nothing : goal.literals::holes_fit-returns-in-Nothing
literals::holes_fit-returns-in-Nothing t c =
    holes_stop_at c.args.world.now c.args.scene.now c.args.allowed c.args.holes.now c.holes.hole-index c.holes.seen c.holes.invariant c.hole-item.result c.holes-test.true c.hole-item.is _ _ c.hole_parts.ensures (as_found nothing c.args.world.now c.args.scene.now (hole_in c.args.world.now c.args.scene.now c.args.allowed _) _ _ c.in-Nothing.is c.in_ok-further.ensures)

pub literals::holes_fit-returns-in-Open : goal.literals::holes_fit-returns-in-Open
literals::holes_fit-returns-in-Open t c =
    holes_open_at c.args.world.now c.args.scene.now c.args.allowed c.args.holes.now c.holes.hole-index c.holes.seen c.holes.invariant c.hole-item.result c.holes-test.true c.hole-item.is _ _ c.hole_parts.ensures c.in-Open.pending (as_found nothing c.args.world.now c.args.scene.now (hole_in c.args.world.now c.args.scene.now c.args.allowed _) _ _ c.in-Open.is c.in_ok-further.ensures)

pub literals::holes_fit-returns : goal.literals::holes_fit-returns
literals::holes_fit-returns t c =
    holes_end_at c.args.world.now c.args.scene.now c.args.allowed c.args.holes.now c.holes.hole-index c.holes.seen c.holes-test.false c.holes.invariant

pub literals::holes_fit-hole_fits-requires : goal.literals::holes_fit-hole_fits-requires
literals::holes_fit-hole_fits-requires t c =
    (omega (arith, hole_lighter c.args.holes.now c.holes.hole-index c.hole-item.result c.holes-test.true c.hole-item.is, ap hole_weight c.hole_parts.ensures, c.decreases), c.requires)

pub literals::literal_fits-returns-in_default : goal.literals::literal_fits-returns-in_default
literals::literal_fits-returns-in_default t c =
    literal_plain c.args.world.now c.args.scene.now c.args.allowed _ _ (ap (λ hs. to_holes (map hole_data hs)) (none_left c.args.holes.now c.in_default.ensures.cases)) c.from_rank.ensures

pub literals::literal_fits-returns-in-Nothing : goal.literals::literal_fits-returns-in-Nothing
literals::literal_fits-returns-in-Nothing t c =
    literal_nothing c.args.world.now c.args.scene.now c.args.allowed _ _ _ _ (ap (λ hs. to_holes (map hole_data hs)) c.in-Some.ensures.cases.0
    ∙ ap (λ h. tree.more_holes h (to_holes (map hole_data c.in-Some.more.now))) c.hole_parts.ensures) (as_found nothing c.args.world.now c.args.scene.now (hole_in c.args.world.now c.args.scene.now c.args.allowed _) _ _ c.in-Nothing.is c.in_ok-seen.ensures)

pub literals::literal_fits-returns-in-Open : goal.literals::literal_fits-returns-in-Open
literals::literal_fits-returns-in-Open t c =
    literal_open c.args.world.now c.args.scene.now c.args.allowed _ _ _ _ (ap (λ hs. to_holes (map hole_data hs)) c.in-Some.ensures.cases.0
    ∙ ap (λ h. tree.more_holes h (to_holes (map hole_data c.in-Some.more.now))) c.hole_parts.ensures) c.in-Open.pending (as_found nothing c.args.world.now c.args.scene.now (hole_in c.args.world.now c.args.scene.now c.args.allowed _) _ _ c.in-Open.is c.in_ok-seen.ensures)

pub literals::literal_fits-returns-in-Found-2 : goal.literals::literal_fits-returns-in-Found-2
literals::literal_fits-returns-in-Found-2 t c =
    literal_then c.args.world.now c.args.scene.now c.args.allowed _ _ _ _ (ap (λ hs. to_holes (map hole_data hs)) c.in-Some.ensures.cases.0
    ∙ ap (λ h. tree.more_holes h (to_holes (map hole_data c.in-Some.more.now))) c.hole_parts.ensures) c.in-Found.seen (as_found nothing c.args.world.now c.args.scene.now (hole_in c.args.world.now c.args.scene.now c.args.allowed _) _ _ c.in-Found.is c.in_ok-seen.ensures) c.in-Found-2.further _ (as_found nothing c.args.world.now c.args.scene.now (λ p known d. rules.holes_fit p known d literal_hole (to_holes (map hole_data c.in-Some.more.now))) _ _ c.in-Found-2.is c.in_ok-further.ensures) c.and.ensures

pub literals::literal_fits-returns-in-Nothing-2 : goal.literals::literal_fits-returns-in-Nothing-2
literals::literal_fits-returns-in-Nothing-2 t c =
    literal_then_nothing c.args.world.now c.args.scene.now c.args.allowed _ _ _ _ (ap (λ hs. to_holes (map hole_data hs)) c.in-Some.ensures.cases.0
    ∙ ap (λ h. tree.more_holes h (to_holes (map hole_data c.in-Some.more.now))) c.hole_parts.ensures) c.in-Found.seen (as_found nothing c.args.world.now c.args.scene.now (hole_in c.args.world.now c.args.scene.now c.args.allowed _) _ _ c.in-Found.is c.in_ok-seen.ensures) (as_found nothing c.args.world.now c.args.scene.now (λ p known d. rules.holes_fit p known d literal_hole (to_holes (map hole_data c.in-Some.more.now))) _ _ c.in-Nothing-2.is c.in_ok-further.ensures)

pub literals::literal_fits-returns-in-Open-2 : goal.literals::literal_fits-returns-in-Open-2
literals::literal_fits-returns-in-Open-2 t c =
    literal_then_open c.args.world.now c.args.scene.now c.args.allowed _ _ _ _ (ap (λ hs. to_holes (map hole_data hs)) c.in-Some.ensures.cases.0
    ∙ ap (λ h. tree.more_holes h (to_holes (map hole_data c.in-Some.more.now))) c.hole_parts.ensures) c.in-Found.seen (as_found nothing c.args.world.now c.args.scene.now (hole_in c.args.world.now c.args.scene.now c.args.allowed _) _ _ c.in-Found.is c.in_ok-seen.ensures) c.in-Open-2.pending (as_found nothing c.args.world.now c.args.scene.now (λ p known d. rules.holes_fit p known d literal_hole (to_holes (map hole_data c.in-Some.more.now))) _ _ c.in-Open-2.is c.in_ok-further.ensures)

pub literals::literal_fits-hole_fits-requires : goal.literals::literal_fits-hole_fits-requires
literals::literal_fits-hole_fits-requires t c =
    (omega (arith, ap (λ hs. holes_weight (to_holes (map hole_data hs))) c.in-Some.ensures.cases.0, ap hole_weight c.hole_parts.ensures, c.decreases), c.requires)

pub literals::literal_fits-holes_fit-requires : goal.literals::literal_fits-holes_fit-requires
literals::literal_fits-holes_fit-requires t c =
    (omega (arith, ap (λ hs. holes_weight (to_holes (map hole_data hs))) c.in-Some.ensures.cases.0, c.decreases), c.requires)

pub collections::list-returns-in_ok-list_of-in-Found : goal.collections::list-returns-in_ok-list_of-in-Found
collections::list-returns-in_ok-list_of-in-Found t c =
    subst (λ found. TypesAs subject_data c.args.world.now c.args.scene.now found (subject_of c.args.world.now c.args.scene.now (tree.Elements (to_elements (map element_data c.args.elements.now)))))
    (sym c.is.ensures)
    (list_found c.args.world.now c.args.scene.now (to_elements (map element_data c.args.elements.now)) c.in-Found.types c.in-Found.seen _ _ _ (as_found items_now c.args.world.now c.args.scene.now (items_of_row c.args.world.now c.args.scene.now (to_elements (map element_data c.args.elements.now))) _ _ c.in-Found.is c.in_ok-types.ensures) (c.in_ok-item-in-Found.ensures ∙ ap join_all c.as_slice.ensures.value)
    c.in_ok-list_of-in-Found.ensures c.within_limit.ensures)

pub collections::list-returns-in-Nothing : goal.collections::list-returns-in-Nothing
collections::list-returns-in-Nothing t c =
    list_nothing c.args.world.now c.args.scene.now (to_elements (map element_data c.args.elements.now)) (as_found items_now c.args.world.now c.args.scene.now (items_of_row c.args.world.now c.args.scene.now (to_elements (map element_data c.args.elements.now))) _ _ c.in-Nothing.is c.in_ok-types.ensures)

pub collections::list-returns-in-Open : goal.collections::list-returns-in-Open
collections::list-returns-in-Open t c =
    list_open c.args.world.now c.args.scene.now (to_elements (map element_data c.args.elements.now)) c.in-Open.pending (as_found items_now c.args.world.now c.args.scene.now (items_of_row c.args.world.now c.args.scene.now (to_elements (map element_data c.args.elements.now))) _ _ c.in-Open.is c.in_ok-types.ensures)

pub collections::item-returns-then-not-spread : goal.collections::item-returns-then-not-spread
collections::item-returns-then-not-spread t c =
    item_plain c.args.world.now c.args.scene.now c.args.spread (expr_data c.args.value.now) (typings.Found c.in-Found.t c.in-Found.seen) c.if-not-spread.true (as_found (λ u. u) c.args.world.now c.args.scene.now (item_value c.args.world.now c.args.scene.now c.args.spread (expr_data c.args.value.now)) _ _ c.in-Found.is c.in_ok-t.ensures)

pub collections::item-returns-then-not-is_list_type : goal.collections::item-returns-then-not-is_list_type
collections::item-returns-then-not-is_list_type t c =
    item_no_list c.args.world.now c.args.scene.now c.args.spread (expr_data c.args.value.now) c.if-not-spread.false c.in-Found.t c.in-Found.seen (as_found (λ u. u) c.args.world.now c.args.scene.now (item_value c.args.world.now c.args.scene.now c.args.spread (expr_data c.args.value.now)) _ _ c.in-Found.is c.in_ok-t.ensures) (sym c.is_list_type.ensures ∙ c.if-not-is_list_type.true)

pub collections::item-returns-in_ok-items_of-in-Found : goal.collections::item-returns-in_ok-items_of-in-Found
collections::item-returns-in_ok-items_of-in-Found t c =
    item_spread c.args.world.now c.args.scene.now c.args.spread (expr_data c.args.value.now) c.if-not-spread.false c.in-Found.t c.in-Found.seen (as_found (λ u. u) c.args.world.now c.args.scene.now (item_value c.args.world.now c.args.scene.now c.args.spread (expr_data c.args.value.now)) _ _ c.in-Found.is c.in_ok-t.ensures) _ (sym c.is_list_type.ensures ∙ c.if-not-is_list_type.false) c.in_ok-items_of-in-Found.ensures

pub collections::item-returns-in-Nothing : goal.collections::item-returns-in-Nothing
collections::item-returns-in-Nothing t c =
    item_nothing c.args.world.now c.args.scene.now c.args.spread (expr_data c.args.value.now) (as_found (λ u. u) c.args.world.now c.args.scene.now (item_value c.args.world.now c.args.scene.now c.args.spread (expr_data c.args.value.now)) _ _ c.in-Nothing.is c.in_ok-t.ensures)

pub collections::item-returns-in-Open : goal.collections::item-returns-in-Open
collections::item-returns-in-Open t c =
    item_open c.args.world.now c.args.scene.now c.args.spread (expr_data c.args.value.now) c.in-Open.pending (as_found (λ u. u) c.args.world.now c.args.scene.now (item_value c.args.world.now c.args.scene.now c.args.spread (expr_data c.args.value.now)) _ _ c.in-Open.is c.in_ok-t.ensures)

pub collections::items-elements-init : goal.collections::items-elements-init
collections::items-elements-init t c =
    items_begin c.args.world.now c.args.scene.now c.args.elements.now _ _ c.new-types.ensures.items c.from_rank-seen.ensures

pub collections::items-elements-preserved : goal.collections::items-elements-preserved
collections::items-elements-preserved t c =
    items_go c.args.world.now c.args.scene.now c.args.elements.now c.elements.element-index c.elements.types.items c.elements.seen c.elements.invariant c.element-item.result c.elements-test.true c.element-item.is _ _ c.element_parts-spread.ensures c.in-Found.t c.in-Found.further _ _ (as_found (λ u. u) c.args.world.now c.args.scene.now (λ p known d. item_type p known d c.element_parts-spread.result.0 (expr_data c.element_parts-spread.result.1.now)) _ _ c.in-Found.is c.in_ok-t.ensures) c.and-seen.ensures c.in_ok-push-in-Found.ensures.items

pub collections::items-returns-in-Nothing : goal.collections::items-returns-in-Nothing
collections::items-returns-in-Nothing t c =
    items_stop c.args.world.now c.args.scene.now c.args.elements.now c.elements.element-index c.elements.types.items c.elements.seen c.elements.invariant c.element-item.result c.elements-test.true c.element-item.is _ _ c.element_parts-spread.ensures (as_found (λ u. u) c.args.world.now c.args.scene.now (λ p known d. item_type p known d c.element_parts-spread.result.0 (expr_data c.element_parts-spread.result.1.now)) _ _ c.in-Nothing.is c.in_ok-t.ensures)

pub collections::items-returns-in-Open : goal.collections::items-returns-in-Open
collections::items-returns-in-Open t c =
    items_open c.args.world.now c.args.scene.now c.args.elements.now c.elements.element-index c.elements.types.items c.elements.seen c.elements.invariant c.element-item.result c.elements-test.true c.element-item.is _ _ c.element_parts-spread.ensures c.in-Open.pending (as_found (λ u. u) c.args.world.now c.args.scene.now (λ p known d. item_type p known d c.element_parts-spread.result.0 (expr_data c.element_parts-spread.result.1.now)) _ _ c.in-Open.is c.in_ok-t.ensures)

pub collections::items-returns : goal.collections::items-returns
collections::items-returns t c =
    items_end c.args.world.now c.args.scene.now c.args.elements.now c.elements.element-index c.elements.types c.elements.seen c.elements-test.false c.elements.invariant

pub collections::items-item-requires : goal.collections::items-item-requires
collections::items-item-requires t c =
    (omega (arith, element_lighter c.args.elements.now c.elements.element-index c.element-item.result c.elements-test.true c.element-item.is, ap element_weight c.element_parts-spread.ensures, c.decreases), c.requires)

pub collections::object-props-init : goal.collections::object-props-init
collections::object-props-init t c =
    object_begin c.args.world.now c.args.scene.now c.args.props.now _ _ (ap (map field_data) c.new-done.ensures.items) c.from_rank-seen.ensures

pub collections::object-props-preserved : goal.collections::object-props-preserved
collections::object-props-preserved t c =
    object_goes c.args.world.now c.args.scene.now c.args.props.now c.props.prop-index (fields_now c.props.done) c.props.seen c.props.invariant c.prop-item.result c.props-test.true c.prop-item.is c.in-Found.fields c.in-Found.further _ (as_found fields_now c.args.world.now c.args.scene.now (λ p known d. rules.fields p known d (tree.more_props (prop_data c.prop-item.result) tree.no_props) (fields_now c.props.done)) _ _ c.in-Found.is c.in_ok-fields.ensures) c.and-seen.ensures

pub collections::object-returns-in-Nothing : goal.collections::object-returns-in-Nothing
collections::object-returns-in-Nothing t c =
    object_stop c.args.world.now c.args.scene.now c.args.props.now c.props.prop-index (fields_now c.props.done) c.props.seen c.props.invariant c.prop-item.result c.props-test.true c.prop-item.is (as_found fields_now c.args.world.now c.args.scene.now (λ p known d. rules.fields p known d (tree.more_props (prop_data c.prop-item.result) tree.no_props) (fields_now c.props.done)) _ _ c.in-Nothing.is c.in_ok-fields.ensures)

pub collections::object-returns-in-Open : goal.collections::object-returns-in-Open
collections::object-returns-in-Open t c =
    object_open c.args.world.now c.args.scene.now c.args.props.now c.props.prop-index (fields_now c.props.done) c.props.seen c.props.invariant c.prop-item.result c.props-test.true c.prop-item.is c.in-Open.pending (as_found fields_now c.args.world.now c.args.scene.now (λ p known d. rules.fields p known d (tree.more_props (prop_data c.prop-item.result) tree.no_props) (fields_now c.props.done)) _ _ c.in-Open.is c.in_ok-fields.ensures)

pub collections::object-returns-then-len : goal.collections::object-returns-then-len
collections::object-returns-then-len t c =
    let many : MAX_TYPE_NODES < length (fields_now c.in-Found.fields) =
    omega (arith, length-map c.in-Found.fields.items field_data, c.len.ensures, c.if-len.true, c.in-Found.fields.ok.0) in
    object_many c.args.world.now c.args.scene.now c.args.props.now (c.props.prop-index + 1) (fields_now c.in-Found.fields) _ many (object_goes c.args.world.now c.args.scene.now c.args.props.now c.props.prop-index (fields_now c.props.done) c.props.seen c.props.invariant c.prop-item.result c.props-test.true c.prop-item.is c.in-Found.fields c.in-Found.further _ (as_found fields_now c.args.world.now c.args.scene.now (λ p known d. rules.fields p known d (tree.more_props (prop_data c.prop-item.result) tree.no_props) (fields_now c.props.done)) _ _ c.in-Found.is c.in_ok-fields.ensures) c.and-seen.ensures)

pub collections::object-returns : goal.collections::object-returns
collections::object-returns t c =
    subst (λ found. TypesAs subject_data c.args.world.now c.args.scene.now found (object_of c.args.world.now c.args.scene.now c.args.props.now)) (sym c.is.ensures)
    (object_end c.args.world.now c.args.scene.now c.args.props.now c.props.prop-index (fields_now c.props.done) c.props.seen _ _ c.props-test.false c.props.invariant
    c.in_ok-object_of.ensures c.within_limit.ensures)

pub collections::object-property-requires : goal.collections::object-property-requires
collections::object-property-requires t c =
    (omega (arith, prop_lighter c.args.props.now c.props.prop-index c.prop-item.result c.props-test.true c.prop-item.is, c.decreases), c.requires)

pub collections::property-returns-in_ok-type_of-in-Named : goal.collections::property-returns-in_ok-type_of-in-Named
unfolding fields
collections::property-returns-in_ok-type_of-in-Named t c =
    subst (λ r. IfOk c.holding.result (λ fs. TypesAs fields_now c.args.world.now c.args.scene.now fs (λ p known d. rules.fields p known d (tree.more_props r tree.no_props) (fields_now c.args.done))))
    (sym (ap prop_data c.in-Named.is ∙ prop_data-Named _ _))
    (if_ok _ _ _ (λ fs is. holds_value c.args.world.now c.args.scene.now (fields_now c.args.done) c.in-Named.name _ fs (λ p known d. expr_type p known d (expr_data c.in-Named.value)) c.in_ok-type_of-in-Named.ensures is) c.holding.ensures)

pub collections::property-returns-in_ok-type_of-in-Quoted : goal.collections::property-returns-in_ok-type_of-in-Quoted
unfolding fields
collections::property-returns-in_ok-type_of-in-Quoted t c =
    subst (λ r. IfOk c.holding-in-Quoted.result (λ fs. TypesAs fields_now c.args.world.now c.args.scene.now fs (λ p known d. rules.fields p known d (tree.more_props r tree.no_props) (fields_now c.args.done))))
    (sym (ap prop_data c.in-Quoted.is ∙ prop_data-Quoted _ _))
    (if_ok _ _ _ (λ fs is. holds_value c.args.world.now c.args.scene.now (fields_now c.args.done) c.in-Quoted.name _ fs (λ p known d. expr_type p known d (expr_data c.in-Quoted.value)) c.in_ok-type_of-in-Quoted.ensures is) c.holding-in-Quoted.ensures)

pub collections::property-returns-in_ok-whole-in-Short : goal.collections::property-returns-in_ok-whole-in-Short
unfolding fields
collections::property-returns-in_ok-whole-in-Short t c =
    subst (λ r. IfOk c.holding-in-Short.result (λ fs. TypesAs fields_now c.args.world.now c.args.scene.now fs (λ p known d. rules.fields p known d (tree.more_props r tree.no_props) (fields_now c.args.done))))
    (sym (ap prop_data c.in-Short.is ∙ prop_data-Short _ _))
    (if_ok _ _ _
    (λ fs is. holds_value c.args.world.now c.args.scene.now (fields_now c.args.done) c.in-Short.name _ fs (λ p known d. rules.typed (rules.named p known d c.in-Short.target))
    (name_as_value c.args.world.now c.args.scene.now c.in-Short.target _ _ c.in_ok-named-in-Short.ensures c.in_ok-whole-in-Short.ensures) is) c.holding-in-Short.ensures)

pub collections::property-returns-in-Nothing : goal.collections::property-returns-in-Nothing
unfolding fields
collections::property-returns-in-Nothing t c =
    property_as c.args.world.now c.args.scene.now typings.Nothing (fields_now c.args.done) _ _
    (sym (ap prop_data c.in-Spread.is ∙ prop_data-Spread _))
    (spread_nothing c.args.world.now c.args.scene.now (fields_now c.args.done) (expr_data c.in-Spread.value) (as_found (λ u. u) c.args.world.now c.args.scene.now (λ p known d. expr_type p known d (expr_data c.in-Spread.value)) _ _ c.in-Nothing.is c.in_ok-t-in-Spread.ensures))

pub collections::property-returns-in-Open : goal.collections::property-returns-in-Open
unfolding fields
collections::property-returns-in-Open t c =
    property_as c.args.world.now c.args.scene.now (typings.Open c.in-Open.pending) (fields_now c.args.done) _ _
    (sym (ap prop_data c.in-Spread.is ∙ prop_data-Spread _))
    (spread_open c.args.world.now c.args.scene.now (fields_now c.args.done) (expr_data c.in-Spread.value) c.in-Open.pending (as_found (λ u. u) c.args.world.now c.args.scene.now (λ p known d. expr_type p known d (expr_data c.in-Spread.value)) _ _ c.in-Open.is c.in_ok-t-in-Spread.ensures))

pub collections::property-returns-in-None : goal.collections::property-returns-in-None
unfolding fields
collections::property-returns-in-None t c =
    property_as c.args.world.now c.args.scene.now typings.Nothing (fields_now c.args.done) _ _
    (sym (ap prop_data c.in-Spread.is ∙ prop_data-Spread _))
    (spread_fails c.args.world.now c.args.scene.now (fields_now c.args.done) (expr_data c.in-Spread.value) c.in-Found.t c.in-Found.seen (as_found (λ u. u) c.args.world.now c.args.scene.now (λ p known d. expr_type p known d (expr_data c.in-Spread.value)) _ _ c.in-Found.is c.in_ok-t-in-Spread.ensures) (sym (ap (option_map fields_now) c.in-None.is) ∙ c.in_ok-fields-in-Found.ensures))

pub collections::property-returns-in_ok-write_fields-in-Some : goal.collections::property-returns-in_ok-write_fields-in-Some
unfolding fields
collections::property-returns-in_ok-write_fields-in-Some t c =
    property_as c.args.world.now c.args.scene.now _ (fields_now c.args.done) _ _
    (sym (ap prop_data c.in-Spread.is ∙ prop_data-Spread _))
    (subst (λ found. TypesAs fields_now c.args.world.now c.args.scene.now found (spread_of c.args.world.now c.args.scene.now (fields_now c.args.done) (expr_data c.in-Spread.value))) (sym c.only.ensures)
    (spread_writes c.args.world.now c.args.scene.now (fields_now c.args.done) (expr_data c.in-Spread.value) c.in-Found.t c.in-Found.seen (as_found (λ u. u) c.args.world.now c.args.scene.now (λ p known d. expr_type p known d (expr_data c.in-Spread.value)) _ _ c.in-Found.is c.in_ok-t-in-Spread.ensures) (fields_now c.in-Some.fields) _
    (sym (ap (option_map fields_now) c.in-Some.is) ∙ c.in_ok-fields-in-Found.ensures) c.in_ok-write_fields-in-Some.ensures))

pub collections::property-type_of-requires : goal.collections::property-type_of-requires
collections::property-type_of-requires t c =
    (omega (arith, ap prop_weight (ap prop_data c.in-Named.is ∙ prop_data-Named _ _), c.decreases), c.requires)

pub collections::property-type_of-requires-in-Quoted : goal.collections::property-type_of-requires-in-Quoted
collections::property-type_of-requires-in-Quoted t c =
    (omega (arith, ap prop_weight (ap prop_data c.in-Quoted.is ∙ prop_data-Quoted _ _), c.decreases), c.requires)

pub collections::property-type_of-requires-in-Spread : goal.collections::property-type_of-requires-in-Spread
collections::property-type_of-requires-in-Spread t c =
    (omega (arith, ap prop_weight (ap prop_data c.in-Spread.is ∙ prop_data-Spread _), c.decreases), c.requires)

pub calls::after-parts-init : goal.calls::after-parts-init
calls::after-parts-init t c = after_begin c.args.world.now c.args.scene.now c.args.found c.args.parts.now

pub calls::after-parts-preserved : goal.calls::after-parts-preserved
calls::after-parts-preserved t c =
    after_goes c.args.world.now c.args.scene.now c.args.found c.args.parts.now c.parts.part-index c.parts.found _ c.part-item.result c.parts.invariant c.parts-test.true c.part-item.is
    c.in_ok-found.ensures

pub calls::after-returns : goal.calls::after-returns
calls::after-returns t c = after_end c.args.world.now c.args.scene.now c.args.found c.args.parts.now c.parts.part-index c.parts.found c.parts-test.false c.parts.invariant

pub calls::after-after_one-requires : goal.calls::after-after_one-requires
calls::after-after_one-requires t c =
    (omega (arith, part_lighter c.args.parts.now c.parts.part-index c.part-item.result c.parts-test.true c.part-item.is, c.decreases), c.requires)

pub calls::after_one-returns-in_ok-whole-in-Member : goal.calls::after_one-returns-in_ok-whole-in-Member
calls::after_one-returns-in_ok-whole-in-Member t c =
    if_ok _ _ _
    (λ end is. part_as c.args.world.now c.args.scene.now c.args.found (part_data c.args.part.now) _ end (sym (ap part_data c.in-Member.is ∙ part_data-Member _))
    (member_after c.args.world.now c.args.scene.now c.args.found c.in-Member.name _ end c.in_ok-whole-in-Member.ensures is))
    c.member_of.ensures

pub calls::after_one-returns-in_ok-whole-in-Index : goal.calls::after_one-returns-in_ok-whole-in-Index
calls::after_one-returns-in_ok-whole-in-Index t c =
    if_ok _ _ _
    (λ end goes. part_as c.args.world.now c.args.scene.now c.args.found (part_data c.args.part.now) _ end (ap (λ e. tree.Index (expr_data e)) c.deref.ensures ∙ sym (ap part_data c.in-Index.is ∙ part_data-Index _))
    (index_after c.args.world.now c.args.scene.now c.args.found (expr_data c.deref.result.now) _ end c.in_ok-whole-in-Index.ensures goes))
    c.at_index.ensures

pub calls::after_one-returns-in-Call : goal.calls::after_one-returns-in-Call
calls::after_one-returns-in-Call t c =
    if_ok _ _ _
    (λ end goes. part_as c.args.world.now c.args.scene.now c.args.found (part_data c.args.part.now) (tree.Call (to_exprs (map expr_data c.as_slice.result.now))) end
    (ap (λ es. tree.Call (to_exprs (map expr_data es))) c.as_slice.ensures.value ∙ sym (ap part_data c.in-Call.is ∙ part_data-Call _))
    (call_after c.args.world.now c.args.scene.now c.args.found (to_exprs (map expr_data c.as_slice.result.now)) end goes))
    c.called.ensures

pub calls::after_one-at_index-requires : goal.calls::after_one-at_index-requires
calls::after_one-at_index-requires t c =
    (omega (arith, ap part_weight (ap part_data c.in-Index.is ∙ part_data-Index _), ap (λ e. expr_weight (expr_data e)) c.deref.ensures, c.decreases), c.requires)

pub calls::after_one-called-requires : goal.calls::after_one-called-requires
calls::after_one-called-requires t c =
    (omega (arith, ap part_weight (ap part_data c.in-Call.is ∙ part_data-Call _), ap (λ es. exprs_weight (to_exprs (map expr_data es))) c.as_slice.ensures.value, c.decreases), c.requires)

pub calls::at_index-returns-in-Nothing : goal.calls::at_index-returns-in-Nothing
calls::at_index-returns-in-Nothing t c =
    subst (λ found. GoesOn (λ u. u) c.args.world.now c.args.scene.now found typings.Nothing (λ p known d t. index_subject p known d (expr_data c.args.index.now) t)) (sym c.in-Nothing.is)
    (after_nothing (λ u. u) c.args.world.now c.args.scene.now (λ p known d t. index_subject p known d (expr_data c.args.index.now) t))

pub calls::at_index-returns-in-Open : goal.calls::at_index-returns-in-Open
calls::at_index-returns-in-Open t c =
    subst (λ found. GoesOn (λ u. u) c.args.world.now c.args.scene.now found (typings.Open c.in-Open.pending) (λ p known d t. index_subject p known d (expr_data c.args.index.now) t)) (sym c.in-Open.is)
    (after_open (λ u. u) c.args.world.now c.args.scene.now (λ p known d t. index_subject p known d (expr_data c.args.index.now) t) c.in-Open.pending)

pub calls::at_index-returns-in-Nothing-2 : goal.calls::at_index-returns-in-Nothing-2
calls::at_index-returns-in-Nothing-2 t c =
    subst (λ found. GoesOn (λ u. u) c.args.world.now c.args.scene.now found typings.Nothing (λ p known d t. index_subject p known d (expr_data c.args.index.now) t)) (sym c.in-Found.is)
    (part_nothing (λ u. u) (λ u. u) c.args.world.now c.args.scene.now c.in-Found.t c.in-Found.seen (λ p known d. expr_type p known d (expr_data c.args.index.now)) (λ p known d t u. only (indexed t u) >>= rules.is) (as_found (λ u. u) c.args.world.now c.args.scene.now (λ p known d. expr_type p known d (expr_data c.args.index.now)) _ _ c.in-Nothing-2.is c.in_ok-u.ensures))

pub calls::at_index-returns : goal.calls::at_index-returns
calls::at_index-returns t c =
    subst (λ found. GoesOn (λ u. u) c.args.world.now c.args.scene.now found (typings.Open c.in-Open-2.pending) (λ p known d t. index_subject p known d (expr_data c.args.index.now) t)) (sym c.in-Found.is)
    (part_open (λ u. u) (λ u. u) c.args.world.now c.args.scene.now c.in-Found.t c.in-Found.seen (λ p known d. expr_type p known d (expr_data c.args.index.now)) (λ p known d t u. only (indexed t u) >>= rules.is) c.in-Open-2.pending (as_found (λ u. u) c.args.world.now c.args.scene.now (λ p known d. expr_type p known d (expr_data c.args.index.now)) _ _ c.in-Open-2.is c.in_ok-u.ensures))

pub calls::at_index-returns-in-Found-2 : goal.calls::at_index-returns-in-Found-2
calls::at_index-returns-in-Found-2 t c =
    subst (λ found. GoesOn (λ u. u) c.args.world.now c.args.scene.now found c.is.result (λ p known d t. index_subject p known d (expr_data c.args.index.now) t)) (sym c.in-Found.is)
    (subst (λ end. GoesOn (λ u. u) c.args.world.now c.args.scene.now (typings.Found c.in-Found.t c.in-Found.seen) end (λ p known d t. index_subject p known d (expr_data c.args.index.now) t))
    (sym (whole_with _ _ _ _ c.is.ensures c.and.ensures))
    (part_is (λ u. u) (λ u. u) c.args.world.now c.args.scene.now c.in-Found.t c.in-Found.seen (λ p known d. expr_type p known d (expr_data c.args.index.now)) (λ p known d t u. only (indexed t u) >>= rules.is) c.in-Found-2.u c.in-Found-2.further (as_found (λ u. u) c.args.world.now c.args.scene.now (λ p known d. expr_type p known d (expr_data c.args.index.now)) _ _ c.in-Found-2.is c.in_ok-u.ensures) _ (λ p known d. ap (λ o. only o >>= rules.is) (sym c.in_ok-indexed-in-Found-2.ensures))))

pub calls::called-returns-in-Found : goal.calls::called-returns-in-Found
calls::called-returns-in-Found t c =
    if_ok _ _ _
    (λ end sees. subst (λ found. GoesOn subject_data c.args.world.now c.args.scene.now found end (λ p known d s. call_subject p known d (to_exprs (map expr_data c.args.arguments.now)) s)) (sym c.in-Found.is)
    (goes_seen c.args.world.now c.args.scene.now c.in-Found.subject c.in-Found.seen end (λ p known d s. call_subject p known d (to_exprs (map expr_data c.args.arguments.now)) s) sees))
    c.subject_call.ensures

pub calls::called-returns-in-Nothing : goal.calls::called-returns-in-Nothing
calls::called-returns-in-Nothing t c =
    subst (λ found. GoesOn subject_data c.args.world.now c.args.scene.now found typings.Nothing (λ p known d s. call_subject p known d (to_exprs (map expr_data c.args.arguments.now)) s)) (sym c.in-Nothing.is) (after_nothing subject_data c.args.world.now c.args.scene.now (λ p known d s. call_subject p known d (to_exprs (map expr_data c.args.arguments.now)) s))

pub calls::called-returns-in-Open : goal.calls::called-returns-in-Open
calls::called-returns-in-Open t c =
    subst (λ found. GoesOn subject_data c.args.world.now c.args.scene.now found (typings.Open c.in-Open.pending) (λ p known d s. call_subject p known d (to_exprs (map expr_data c.args.arguments.now)) s)) (sym c.in-Open.is) (after_open subject_data c.args.world.now c.args.scene.now (λ p known d s. call_subject p known d (to_exprs (map expr_data c.args.arguments.now)) s) c.in-Open.pending)

pub calls::subject_call-returns-in-Some : goal.calls::subject_call-returns-in-Some
unfolding subject_call
calls::subject_call-returns-in-Some t c =
    if_ok _ _ _
    (λ end sees. subst (λ s. SeesOn c.args.world.now c.args.scene.now c.args.seen end (λ p known d. call_subject p known d (to_exprs (map expr_data c.args.arguments.now)) (subject_data s))) (sym c.in-Named.is)
    (named_call c.args.world.now c.args.scene.now c.args.seen end (to_exprs (map expr_data c.args.arguments.now)) c.in-Named.t c.in-Named.name (Some c.in-Some.member) (sym c.in-Some.is ∙ c.callback_member.ensures ∙ ap (λ x. rules.if_callback (member_named x)) c.bytes.ensures) sees))
    c.with_callback.ensures

pub calls::subject_call-returns-in-Named : goal.calls::subject_call-returns-in-Named
unfolding subject_call
calls::subject_call-returns-in-Named t c =
    if_ok _ _ _
    (λ end sees. subst (λ s. SeesOn c.args.world.now c.args.scene.now c.args.seen end (λ p known d. call_subject p known d (to_exprs (map expr_data c.args.arguments.now)) (subject_data s))) (sym c.in-Named.is)
    (named_call c.args.world.now c.args.scene.now c.args.seen end (to_exprs (map expr_data c.args.arguments.now)) c.in-Named.t c.in-Named.name None (sym c.in-None.is ∙ c.callback_member.ensures ∙ ap (λ x. rules.if_callback (member_named x)) c.bytes.ensures) sees))
    c.method_call.ensures

pub calls::subject_call-returns-in-Function : goal.calls::subject_call-returns-in-Function
unfolding subject_call
calls::subject_call-returns-in-Function t c =
    if_ok _ _ _
    (λ end sees. subst (λ s. SeesOn c.args.world.now c.args.scene.now c.args.seen end (λ p known d. call_subject p known d (to_exprs (map expr_data c.args.arguments.now)) (subject_data s))) (sym c.in-Function.is)
    (declared_call c.args.world.now c.args.scene.now c.args.seen end (to_exprs (map expr_data c.args.arguments.now)) c.in-Function.file c.in-Function.decl sees))
    c.function_call.ensures

pub calls::subject_call-returns-in-Ambient : goal.calls::subject_call-returns-in-Ambient
unfolding subject_call
calls::subject_call-returns-in-Ambient t c =
    if_ok _ _ _
    (λ end sees. subst (λ s. SeesOn c.args.world.now c.args.scene.now c.args.seen end (λ p known d. call_subject p known d (to_exprs (map expr_data c.args.arguments.now)) (subject_data s))) (sym c.in-Ambient.is)
    (ambient_called c.args.world.now c.args.scene.now c.args.seen end (to_exprs (map expr_data c.args.arguments.now)) c.in-Ambient.call sees))
    c.ambient_call.ensures

pub calls::subject_call-returns : goal.calls::subject_call-returns
calls::subject_call-returns t c =
    subst (λ s. SeesOn c.args.world.now c.args.scene.now c.args.seen typings.Nothing (λ p known d. call_subject p known d (to_exprs (map expr_data c.args.arguments.now)) (subject_data s))) (sym c.in-Whole.is)
    (value_call c.args.world.now c.args.scene.now c.args.seen (to_exprs (map expr_data c.args.arguments.now)) c.in-Whole.field-0)

pub calls::method_call-returns-in-Nothing : goal.calls::method_call-returns-in-Nothing
calls::method_call-returns-in-Nothing t c =
    part_nothing (λ (u : Unit {0}). u) items_now c.args.world.now c.args.scene.now tt c.args.seen (λ p known d. rules.arguments p known d (to_exprs (map expr_data c.args.arguments.now))) (λ p known d u given. only (method_type c.args.t.now c.args.name.now given) >>= rules.is) (as_found items_now c.args.world.now c.args.scene.now (λ p known d. rules.arguments p known d (to_exprs (map expr_data c.args.arguments.now))) _ _ c.in-Nothing.is c.in_ok-given.ensures)

pub calls::method_call-returns-in-Open : goal.calls::method_call-returns-in-Open
calls::method_call-returns-in-Open t c =
    part_open (λ (u : Unit {0}). u) items_now c.args.world.now c.args.scene.now tt c.args.seen (λ p known d. rules.arguments p known d (to_exprs (map expr_data c.args.arguments.now))) (λ p known d u given. only (method_type c.args.t.now c.args.name.now given) >>= rules.is) c.in-Open.pending (as_found items_now c.args.world.now c.args.scene.now (λ p known d. rules.arguments p known d (to_exprs (map expr_data c.args.arguments.now))) _ _ c.in-Open.is c.in_ok-given.ensures)

pub calls::method_call-returns-in_ok-method_type-in-Found : goal.calls::method_call-returns-in_ok-method_type-in-Found
calls::method_call-returns-in_ok-method_type-in-Found t c =
    subst (λ end. GoesOn (λ (u : Unit {0}). u) c.args.world.now c.args.scene.now (typings.Found tt c.args.seen) end (λ p known d u. rules.arguments p known d (to_exprs (map expr_data c.args.arguments.now)) >>= λ given. only (method_type c.args.t.now c.args.name.now given) >>= rules.is))
    (sym (whole_with _ _ _ _ c.is.ensures c.and.ensures))
    (part_is (λ (u : Unit {0}). u) items_now c.args.world.now c.args.scene.now tt c.args.seen (λ p known d. rules.arguments p known d (to_exprs (map expr_data c.args.arguments.now))) (λ p known d u given. only (method_type c.args.t.now c.args.name.now given) >>= rules.is) c.in-Found.given c.in-Found.further (as_found items_now c.args.world.now c.args.scene.now (λ p known d. rules.arguments p known d (to_exprs (map expr_data c.args.arguments.now))) _ _ c.in-Found.is c.in_ok-given.ensures) _ (λ p known d. ap (λ o. only o >>= rules.is) (sym (c.in_ok-method_type-in-Found.ensures ∙ ap (λ x. method_type c.args.t.now x c.as_slice.result.now) c.bytes.ensures ∙ ap (method_type c.args.t.now c.args.name.now) c.as_slice.ensures.value))))

pub calls::ambient_call-returns-in-Nothing : goal.calls::ambient_call-returns-in-Nothing
calls::ambient_call-returns-in-Nothing t c =
    part_nothing (λ (u : Unit {0}). u) items_now c.args.world.now c.args.scene.now tt c.args.seen (λ p known d. rules.arguments p known d (to_exprs (map expr_data c.args.arguments.now))) (λ p known d u given. only (ambient_type c.args.call given) >>= rules.is) (as_found items_now c.args.world.now c.args.scene.now (λ p known d. rules.arguments p known d (to_exprs (map expr_data c.args.arguments.now))) _ _ c.in-Nothing.is c.in_ok-given.ensures)

pub calls::ambient_call-returns-in-Open : goal.calls::ambient_call-returns-in-Open
calls::ambient_call-returns-in-Open t c =
    part_open (λ (u : Unit {0}). u) items_now c.args.world.now c.args.scene.now tt c.args.seen (λ p known d. rules.arguments p known d (to_exprs (map expr_data c.args.arguments.now))) (λ p known d u given. only (ambient_type c.args.call given) >>= rules.is) c.in-Open.pending (as_found items_now c.args.world.now c.args.scene.now (λ p known d. rules.arguments p known d (to_exprs (map expr_data c.args.arguments.now))) _ _ c.in-Open.is c.in_ok-given.ensures)

pub calls::ambient_call-returns-in_ok-ambient_type-in-Found : goal.calls::ambient_call-returns-in_ok-ambient_type-in-Found
calls::ambient_call-returns-in_ok-ambient_type-in-Found t c =
    subst (λ end. GoesOn (λ (u : Unit {0}). u) c.args.world.now c.args.scene.now (typings.Found tt c.args.seen) end (λ p known d u. rules.arguments p known d (to_exprs (map expr_data c.args.arguments.now)) >>= λ given. only (ambient_type c.args.call given) >>= rules.is))
    (sym (whole_with _ _ _ _ c.is.ensures c.and.ensures))
    (part_is (λ (u : Unit {0}). u) items_now c.args.world.now c.args.scene.now tt c.args.seen (λ p known d. rules.arguments p known d (to_exprs (map expr_data c.args.arguments.now))) (λ p known d u given. only (ambient_type c.args.call given) >>= rules.is) c.in-Found.given c.in-Found.further (as_found items_now c.args.world.now c.args.scene.now (λ p known d. rules.arguments p known d (to_exprs (map expr_data c.args.arguments.now))) _ _ c.in-Found.is c.in_ok-given.ensures) _ (λ p known d. ap (λ o. only o >>= rules.is) (sym (c.in_ok-ambient_type-in-Found.ensures))))

pub calls::function_call-returns-in-Nothing : goal.calls::function_call-returns-in-Nothing
calls::function_call-returns-in-Nothing t c =
    part_nothing (λ (u : Unit {0}). u) items_now c.args.world.now c.args.scene.now tt c.args.seen (λ p known d. rules.arguments p known d (to_exprs (map expr_data c.args.arguments.now))) (λ p known d u given. only (functions.function_type p known c.args.file c.args.decl given) >>= rules.is) (as_found items_now c.args.world.now c.args.scene.now (λ p known d. rules.arguments p known d (to_exprs (map expr_data c.args.arguments.now))) _ _ c.in-Nothing.is c.in_ok-given.ensures)

pub calls::function_call-returns : goal.calls::function_call-returns
calls::function_call-returns t c =
    part_open (λ (u : Unit {0}). u) items_now c.args.world.now c.args.scene.now tt c.args.seen (λ p known d. rules.arguments p known d (to_exprs (map expr_data c.args.arguments.now))) (λ p known d u given. only (functions.function_type p known c.args.file c.args.decl given) >>= rules.is) c.in-Open.pending (as_found items_now c.args.world.now c.args.scene.now (λ p known d. rules.arguments p known d (to_exprs (map expr_data c.args.arguments.now))) _ _ c.in-Open.is c.in_ok-given.ensures)

pub calls::function_call-returns-in-Found-2 : goal.calls::function_call-returns-in-Found-2
calls::function_call-returns-in-Found-2 t c =
    subst (λ end. GoesOn (λ (u : Unit {0}). u) c.args.world.now c.args.scene.now (typings.Found tt c.args.seen) end (λ p known d u. rules.arguments p known d (to_exprs (map expr_data c.args.arguments.now)) >>= λ given. only (functions.function_type p known c.args.file c.args.decl given) >>= rules.is))
    (sym (c.is.ensures ∙ ap (λ s. is_whole (only_found (Some c.in-Found-2.t) s))
    (c.and-in-Found-2.ensures ∙ ap (λ s. both_seen s c.from_rank.result) c.and.ensures ∙ ap (λ s. both_seen (both_seen c.args.seen c.in-Found.further) s) c.from_rank.ensures)))
    (finds_value (λ (u : Unit {0}). u) items_now c.args.world.now c.args.scene.now tt c.args.seen (λ p known d. rules.arguments p known d (to_exprs (map expr_data c.args.arguments.now))) (λ p known d u given. only (functions.function_type p known c.args.file c.args.decl given) >>= rules.is) c.in-Found.given c.in-Found.further (as_found items_now c.args.world.now c.args.scene.now (λ p known d. rules.arguments p known d (to_exprs (map expr_data c.args.arguments.now))) _ _ c.in-Found.is c.in_ok-given.ensures) (λ p known. functions.function_type p known c.args.file c.args.decl c.in-Found.given.items) (λ p known d. refl) c.in-Found-2.t c.in-Found-2.rank (finds_as c.args.world.now _ _ c.as_slice.ensures.value c.args.file c.args.decl _ _ c.in-Found-2.is c.in_ok-t-in-Found.ensures))

pub calls::function_call-returns-in-Nothing-2 : goal.calls::function_call-returns-in-Nothing-2
calls::function_call-returns-in-Nothing-2 t c =
    finds_nothing (λ (u : Unit {0}). u) items_now c.args.world.now c.args.scene.now tt c.args.seen (λ p known d. rules.arguments p known d (to_exprs (map expr_data c.args.arguments.now))) (λ p known d u given. only (functions.function_type p known c.args.file c.args.decl given) >>= rules.is) c.in-Found.given c.in-Found.further (as_found items_now c.args.world.now c.args.scene.now (λ p known d. rules.arguments p known d (to_exprs (map expr_data c.args.arguments.now))) _ _ c.in-Found.is c.in_ok-given.ensures) (λ p known. functions.function_type p known c.args.file c.args.decl c.in-Found.given.items) (λ p known d. refl) (finds_as c.args.world.now _ _ c.as_slice.ensures.value c.args.file c.args.decl _ _ c.in-Nothing-2.is c.in_ok-t-in-Found.ensures)

pub calls::function_call-returns-in-Found : goal.calls::function_call-returns-in-Found
calls::function_call-returns-in-Found t c =
    finds_open (λ (u : Unit {0}). u) items_now c.args.world.now c.args.scene.now tt c.args.seen (λ p known d. rules.arguments p known d (to_exprs (map expr_data c.args.arguments.now))) (λ p known d u given. only (functions.function_type p known c.args.file c.args.decl given) >>= rules.is) c.in-Found.given c.in-Found.further (as_found items_now c.args.world.now c.args.scene.now (λ p known d. rules.arguments p known d (to_exprs (map expr_data c.args.arguments.now))) _ _ c.in-Found.is c.in_ok-given.ensures) (λ p known. functions.function_type p known c.args.file c.args.decl c.in-Found.given.items) (λ p known d. refl) c.in-Open-2.pending (finds_as c.args.world.now _ _ c.as_slice.ensures.value c.args.file c.args.decl _ _ c.in-Open-2.is c.in_ok-t-in-Found.ensures)

pub calls::types_of-exprs-init : goal.calls::types_of-exprs-init
calls::types_of-exprs-init t c =
    arguments_begin c.args.world.now c.args.scene.now c.args.exprs.now _ _ c.new-types.ensures.items c.from_rank-seen.ensures

pub calls::types_of-exprs-preserved : goal.calls::types_of-exprs-preserved
calls::types_of-exprs-preserved t c =
    arguments_go c.args.world.now c.args.scene.now c.args.exprs.now c.exprs.expr-index c.exprs.types.items c.exprs.seen c.exprs.invariant c.expr-item.result c.exprs-test.true c.expr-item.is c.in-Found.t c.in-Found.further _ _ (as_found (λ u. u) c.args.world.now c.args.scene.now (λ p known d. rules.expr_type p known d (expr_data c.expr-item.result)) _ _ c.in-Found.is c.in_ok-t.ensures) c.and-seen.ensures c.in_ok-push-in-Found.ensures.items

pub calls::types_of-returns-in-Nothing : goal.calls::types_of-returns-in-Nothing
calls::types_of-returns-in-Nothing t c =
    arguments_stop c.args.world.now c.args.scene.now c.args.exprs.now c.exprs.expr-index c.exprs.types.items c.exprs.seen c.exprs.invariant c.expr-item.result c.exprs-test.true c.expr-item.is (as_found (λ u. u) c.args.world.now c.args.scene.now (λ p known d. rules.expr_type p known d (expr_data c.expr-item.result)) _ _ c.in-Nothing.is c.in_ok-t.ensures)

pub calls::types_of-returns-in-Open : goal.calls::types_of-returns-in-Open
calls::types_of-returns-in-Open t c =
    arguments_open c.args.world.now c.args.scene.now c.args.exprs.now c.exprs.expr-index c.exprs.types.items c.exprs.seen c.exprs.invariant c.expr-item.result c.exprs-test.true c.expr-item.is c.in-Open.pending (as_found (λ u. u) c.args.world.now c.args.scene.now (λ p known d. rules.expr_type p known d (expr_data c.expr-item.result)) _ _ c.in-Open.is c.in_ok-t.ensures)

pub calls::types_of-returns : goal.calls::types_of-returns
calls::types_of-returns t c =
    arguments_end c.args.world.now c.args.scene.now c.args.exprs.now c.exprs.expr-index c.exprs.types c.exprs.seen c.exprs-test.false c.exprs.invariant

pub calls::types_of-type_of-requires : goal.calls::types_of-type_of-requires
calls::types_of-type_of-requires t c =
    (omega (arith, expr_lighter c.args.exprs.now c.exprs.expr-index c.expr-item.result c.exprs-test.true c.expr-item.is, c.decreases), c.requires)

pub callbacks::with_callback-returns-in_default : goal.callbacks::with_callback-returns-in_default
callbacks::with_callback-returns-in_default t c =
    subst (λ es. CalledBack c.args.world.now c.args.scene.now c.args.member c.args.t c.args.seen (to_exprs (map expr_data es)) typings.Nothing)
    (sym (none_left c.args.arguments.now c.in_default.ensures.cases)) (back_alone c.args.world.now c.args.scene.now c.args.member c.args.t c.args.seen)

pub callbacks::with_callback-returns-in-Nothing : goal.callbacks::with_callback-returns-in-Nothing
callbacks::with_callback-returns-in-Nothing t c =
    subst (λ es. CalledBack c.args.world.now c.args.scene.now c.args.member c.args.t c.args.seen (to_exprs (map expr_data es)) typings.Nothing) (sym c.in-Some.ensures.cases.0)
    (back_nothing c.args.world.now c.args.scene.now c.args.member c.args.t c.args.seen (expr_data c.in-Some.callback.now) (to_exprs (map expr_data c.in-Some.further.now)) (as_found items_now c.args.world.now c.args.scene.now (λ p known d. rules.arguments p known d (to_exprs (map expr_data c.in-Some.further.now))) _ _ c.in-Nothing.is c.in_ok-types.ensures))

pub callbacks::with_callback-returns-in-Open : goal.callbacks::with_callback-returns-in-Open
callbacks::with_callback-returns-in-Open t c =
    subst (λ es. CalledBack c.args.world.now c.args.scene.now c.args.member c.args.t c.args.seen (to_exprs (map expr_data es)) (typings.Open c.in-Open.pending)) (sym c.in-Some.ensures.cases.0)
    (back_open c.args.world.now c.args.scene.now c.args.member c.args.t c.args.seen (expr_data c.in-Some.callback.now) (to_exprs (map expr_data c.in-Some.further.now)) c.in-Open.pending (as_found items_now c.args.world.now c.args.scene.now (λ p known d. rules.arguments p known d (to_exprs (map expr_data c.in-Some.further.now))) _ _ c.in-Open.is c.in_ok-types.ensures))

pub callbacks::with_callback-returns-then-not-is_list_type : goal.callbacks::with_callback-returns-then-not-is_list_type
callbacks::with_callback-returns-then-not-is_list_type t c =
    subst (λ es. CalledBack c.args.world.now c.args.scene.now c.args.member c.args.t c.args.seen (to_exprs (map expr_data es)) typings.Nothing) (sym c.in-Some.ensures.cases.0)
    (back_no_list c.args.world.now c.args.scene.now c.args.member c.args.t c.args.seen (expr_data c.in-Some.callback.now) (to_exprs (map expr_data c.in-Some.further.now)) c.in-Found.types c.in-Found.second (as_found items_now c.args.world.now c.args.scene.now (λ p known d. rules.arguments p known d (to_exprs (map expr_data c.in-Some.further.now))) _ _ c.in-Found.is c.in_ok-types.ensures) (sym c.is_list_type.ensures ∙ c.if-not-is_list_type.true))

pub callbacks::with_callback-returns-in_default-2 : goal.callbacks::with_callback-returns-in_default-2
callbacks::with_callback-returns-in_default-2 t c =
    subst (λ es. CalledBack c.args.world.now c.args.scene.now c.args.member c.args.t c.args.seen (to_exprs (map expr_data es)) typings.Nothing) (sym c.in-Some.ensures.cases.0)
    (back_not_given c.args.world.now c.args.scene.now c.args.member c.args.t c.args.seen (expr_data c.in-Some.callback.now) (to_exprs (map expr_data c.in-Some.further.now)) c.in-Found.types c.in-Found.second (as_found items_now c.args.world.now c.args.scene.now (λ p known d. rules.arguments p known d (to_exprs (map expr_data c.in-Some.further.now))) _ _ c.in-Found.is c.in_ok-types.ensures) (sym c.is_list_type.ensures ∙ c.if-not-is_list_type.false) (given_is c.args.member c.args.t _ _ _ _ c.in_ok-item.ensures c.as_slice.ensures.value c.in_ok-given.ensures ∙ ap types_in c.in_default-2.is))

pub callbacks::with_callback-returns-in-Nothing-2 : goal.callbacks::with_callback-returns-in-Nothing-2
callbacks::with_callback-returns-in-Nothing-2 t c =
    subst (λ es. CalledBack c.args.world.now c.args.scene.now c.args.member c.args.t c.args.seen (to_exprs (map expr_data es)) typings.Nothing) (sym c.in-Some.ensures.cases.0)
    (back_none c.args.world.now c.args.scene.now c.args.member c.args.t c.args.seen (expr_data c.in-Some.callback.now) (to_exprs (map expr_data c.in-Some.further.now)) c.in-Found.types c.in-Found.second (as_found items_now c.args.world.now c.args.scene.now (λ p known d. rules.arguments p known d (to_exprs (map expr_data c.in-Some.further.now))) _ _ c.in-Found.is c.in_ok-types.ensures) c.in-Some-2.given.items (sym c.is_list_type.ensures ∙ c.if-not-is_list_type.false) (given_is c.args.member c.args.t _ _ _ _ c.in_ok-item.ensures c.as_slice.ensures.value c.in_ok-given.ensures ∙ ap types_in c.in-Some-2.is) (as_found typed_as c.args.world.now c.args.scene.now (λ p known d. functions.callback_answer p known d (Some (expr_data c.in-Some.callback.now)) c.in-Some-2.given.items) _ _ c.in-Nothing-2.is (answer_as c.args.world.now c.args.scene.now _ (expr_data c.in-Some.callback.now) _ _ c.as_slice-2.ensures.value c.in_ok-answer.ensures)))

pub callbacks::with_callback-returns-in-Open-2 : goal.callbacks::with_callback-returns-in-Open-2
callbacks::with_callback-returns-in-Open-2 t c =
    subst (λ es. CalledBack c.args.world.now c.args.scene.now c.args.member c.args.t c.args.seen (to_exprs (map expr_data es)) (typings.Open c.in-Open-2.pending)) (sym c.in-Some.ensures.cases.0)
    (back_opens c.args.world.now c.args.scene.now c.args.member c.args.t c.args.seen (expr_data c.in-Some.callback.now) (to_exprs (map expr_data c.in-Some.further.now)) c.in-Found.types c.in-Found.second (as_found items_now c.args.world.now c.args.scene.now (λ p known d. rules.arguments p known d (to_exprs (map expr_data c.in-Some.further.now))) _ _ c.in-Found.is c.in_ok-types.ensures) c.in-Some-2.given.items (sym c.is_list_type.ensures ∙ c.if-not-is_list_type.false) (given_is c.args.member c.args.t _ _ _ _ c.in_ok-item.ensures c.as_slice.ensures.value c.in_ok-given.ensures ∙ ap types_in c.in-Some-2.is) c.in-Open-2.pending (as_found typed_as c.args.world.now c.args.scene.now (λ p known d. functions.callback_answer p known d (Some (expr_data c.in-Some.callback.now)) c.in-Some-2.given.items) _ _ c.in-Open-2.is (answer_as c.args.world.now c.args.scene.now _ (expr_data c.in-Some.callback.now) _ _ c.as_slice-2.ensures.value c.in_ok-answer.ensures)))

pub callbacks::with_callback-returns-in_ok-found-in-Found-2 : goal.callbacks::with_callback-returns-in_ok-found-in-Found-2
callbacks::with_callback-returns-in_ok-found-in-Found-2 t c =
    subst (λ es. CalledBack c.args.world.now c.args.scene.now c.args.member c.args.t c.args.seen (to_exprs (map expr_data es)) c.is.result) (sym c.in-Some.ensures.cases.0)
    (subst (λ end. CalledBack c.args.world.now c.args.scene.now c.args.member c.args.t c.args.seen (tree.more_exprs (expr_data c.in-Some.callback.now) (to_exprs (map expr_data c.in-Some.further.now))) end)
    (sym (whole_with _ _ _ _ c.is.ensures (c.and-in-Found-2.ensures ∙ ap (λ s. both_seen s c.in-Found-2.third) c.and.ensures)))
    (back_found c.args.world.now c.args.scene.now c.args.member c.args.t c.args.seen (expr_data c.in-Some.callback.now) (to_exprs (map expr_data c.in-Some.further.now)) c.in-Found.types c.in-Found.second (as_found items_now c.args.world.now c.args.scene.now (λ p known d. rules.arguments p known d (to_exprs (map expr_data c.in-Some.further.now))) _ _ c.in-Found.is c.in_ok-types.ensures) c.in-Some-2.given.items (sym c.is_list_type.ensures ∙ c.if-not-is_list_type.false) (given_is c.args.member c.args.t _ _ _ _ c.in_ok-item.ensures c.as_slice.ensures.value c.in_ok-given.ensures ∙ ap types_in c.in-Some-2.is) c.in-Found-2.answer c.in-Found-2.third _ (as_found typed_as c.args.world.now c.args.scene.now (λ p known d. functions.callback_answer p known d (Some (expr_data c.in-Some.callback.now)) c.in-Some-2.given.items) _ _ c.in-Found-2.is (answer_as c.args.world.now c.args.scene.now _ (expr_data c.in-Some.callback.now) _ _ c.as_slice-2.ensures.value c.in_ok-answer.ensures))
    (c.in_ok-found-in-Found-2.ensures ∙ ap (λ item. if is_never c.args.t then Some never else functions.by_answer c.args.member item c.in-Found.types.items c.in-Found-2.answer) c.in_ok-item.ensures)))

pub callbacks::with_callback-types_of-requires : goal.callbacks::with_callback-types_of-requires
callbacks::with_callback-types_of-requires t c =
    (omega (arith, ap (λ es. exprs_weight (to_exprs (map expr_data es))) c.in-Some.ensures.cases.0, c.decreases), c.requires)

pub callbacks::with_callback-callback_answer-requires : goal.callbacks::with_callback-callback_answer-requires
callbacks::with_callback-callback_answer-requires t c =
    (omega (arith, ap (λ es. exprs_weight (to_exprs (map expr_data es))) c.in-Some.ensures.cases.0, c.decreases), c.requires)

pub callbacks::callback_answer-returns-in-Some : goal.callbacks::callback_answer-returns-in-Some
callbacks::callback_answer-returns-in-Some t c =
    if_ok _ _ _
    (λ found says. arrow_answers c.args.world.now c.args.scene.now (expr_data c.args.callback.now) c.args.given.now c.in-Arrow.number (function_data c.in-Some.function.now) found (sym (ap shape_data c.in-Arrow.is) ∙ c.shape_of.ensures)
    (function_there c.args.world.now _ _ _ c.functions.ensures (got _ _ _ _ c.get.ensures.lookup.1 c.get.ensures.lookup.3) _ c.in-Some.is) says)
    c.arrow_answer.ensures

pub callbacks::callback_answer-arrow_answer-requires : goal.callbacks::callback_answer-arrow_answer-requires
callbacks::callback_answer-arrow_answer-requires t c = (
  omega (arith, c.decreases),
  (c.requires, function_there c.args.world.now _ _ _ c.functions.ensures (got _ _ _ _ c.get.ensures.lookup.1 c.get.ensures.lookup.3) _ c.in-Some.is),
)

pub callbacks::callback_answer-returns-in-None : goal.callbacks::callback_answer-returns-in-None
callbacks::callback_answer-returns-in-None t c =
    no_arrow_answers c.args.world.now c.args.scene.now (expr_data c.args.callback.now) c.args.given.now c.in-Arrow.number (sym (ap shape_data c.in-Arrow.is) ∙ c.shape_of.ensures) (no_function_there c.args.world.now _ _ _ c.functions.ensures (got _ _ _ _ c.get.ensures.lookup.1 c.get.ensures.lookup.3) c.in-None.is)

pub callbacks::callback_answer-returns-in-Name : goal.callbacks::callback_answer-returns-in-Name
callbacks::callback_answer-returns-in-Name t c =
    if_ok _ _ _
    (λ found says. answers_as c.args.world.now c.args.scene.now (expr_data c.args.callback.now) c.args.given.now (Name c.in-Name.target) (sym (ap shape_data c.in-Name.is) ∙ c.shape_of.ensures) found (λ p known d. target_answer p known c.args.given.now c.in-Name.target)
    (λ n d. refl) (says c.args.scene.now))
    c.declared_answer.ensures

pub callbacks::callback_answer-returns-in-Undefined : goal.callbacks::callback_answer-returns-in-Undefined
callbacks::callback_answer-returns-in-Undefined t c =
    no_callback c.args.world.now c.args.scene.now (expr_data c.args.callback.now) c.args.given.now Undefined (sym (ap shape_data c.in-Undefined.is) ∙ c.shape_of.ensures) (λ p known d. refl)

pub callbacks::callback_answer-returns-in-Unary : goal.callbacks::callback_answer-returns-in-Unary
callbacks::callback_answer-returns-in-Unary t c =
    no_callback c.args.world.now c.args.scene.now (expr_data c.args.callback.now) c.args.given.now (Unary _ _) (sym (ap shape_data c.in-Unary.is) ∙ c.shape_of.ensures) (λ p known d. refl)

pub callbacks::callback_answer-returns-in-Chain : goal.callbacks::callback_answer-returns-in-Chain
callbacks::callback_answer-returns-in-Chain t c =
    no_callback c.args.world.now c.args.scene.now (expr_data c.args.callback.now) c.args.given.now (Chain _ _) (sym (ap shape_data c.in-Chain.is) ∙ c.shape_of.ensures) (λ p known d. refl)

pub callbacks::callback_answer-returns-in-Other : goal.callbacks::callback_answer-returns-in-Other
callbacks::callback_answer-returns-in-Other t c =
    no_callback c.args.world.now c.args.scene.now (expr_data c.args.callback.now) c.args.given.now Other (sym (ap shape_data c.in-Other.is) ∙ c.shape_of.ensures) (λ p known d. refl)

pub callbacks::arrow_answer-returns-in-Nothing : goal.callbacks::arrow_answer-returns-in-Nothing
callbacks::arrow_answer-returns-in-Nothing t c =
    arrow_nowhere c.args.world.now c.args.scene.now c.args.number (function_data c.args.function.now) c.args.given.now c.requires.there (subst (λ v. FindsScene c.args.world.now c.args.scene.now v (context_of c.args.world.now c.args.scene.now c.args.number (function_data c.args.function.now) c.args.given.now c.requires.there)) c.in-Nothing.is c.in_ok-inner.ensures)

pub callbacks::arrow_answer-returns-in-Open : goal.callbacks::arrow_answer-returns-in-Open
callbacks::arrow_answer-returns-in-Open t c =
    arrow_opens c.args.world.now c.args.scene.now c.args.number (function_data c.args.function.now) c.args.given.now c.requires.there c.in-Open.pending (subst (λ v. FindsScene c.args.world.now c.args.scene.now v (context_of c.args.world.now c.args.scene.now c.args.number (function_data c.args.function.now) c.args.given.now c.requires.there)) c.in-Open.is c.in_ok-inner.ensures)

pub callbacks::arrow_answer-returns-in_default : goal.callbacks::arrow_answer-returns-in_default
callbacks::arrow_answer-returns-in_default t c =
    arrow_lowest c.args.world.now c.args.scene.now c.args.number (function_data c.args.function.now) c.args.given.now c.requires.there (subst (λ o. IsBelow c.args.world.now o) c.in_default.is c.below.ensures)

pub callbacks::arrow_answer-returns : goal.callbacks::arrow_answer-returns
callbacks::arrow_answer-returns t c =
    if_ok _ _ _
    (λ found made. arrow_told c.args.world.now c.args.scene.now c.args.number (function_data c.args.function.now) c.args.given.now c.requires.there c.in-Some.below (subst (λ o. IsBelow c.args.world.now o) c.in-Some.is c.below.ensures) c.in-Found.inner c.in-Found.rank
    (subst (λ v. FindsScene c.args.world.now c.args.scene.now v (context_of c.args.world.now c.args.scene.now c.args.number (function_data c.args.function.now) c.args.given.now c.requires.there)) c.in-Found.is c.in_ok-inner.ensures) _ _ found made c.in_ok-inside.ensures.answer c.in_ok-inside.ensures.right)
    c.above_body.ensures

pub callbacks::arrow_answer-body-requires : goal.callbacks::arrow_answer-body-requires
callbacks::arrow_answer-body-requires t c =
    let is = subst (λ o. IsBelow c.args.world.now o) c.in-Some.is c.below.ensures in
    let less : measure (program_of c.args.world.now) c.in-Some.below.left (body_weight (body_data c.args.function.now.body)) 6 < t =
    omega (arith, below_measure (program_of c.args.world.now) c.args.number c.args.world.now.left c.in-Some.below.left (function_data c.args.function.now) c.requires.there is.3, c.decreases) in (
      subst (λ (p : ProgramData). measure p c.in-Some.below.left (body_weight (body_data c.args.function.now.body)) 6 < t)
          (sym (same_program c.args.world.now c.in-Some.below is)) less,
      sound_below c.args.world.now c.in-Some.below is c.requires.sound,
    )

pub bodies::body-returns-clause-answer : goal.bodies::body-returns-clause-answer
bodies::body-returns-clause-answer t c =
    subst (λ f. FindsAs c.args.world.now c.args.scene.now f (λ p known d. bodies.inferred p known d (body_data c.args.body.now)))
    (sym (c.in_ok-inferred.ensures ∙ ap (λ ends. inferred_from ends (finding_types c.in_ok-walk.walk.returns)) c.may_end.ensures))
    (body_answers c.args.world.now c.args.scene.now _ (body_data c.args.body.now) c.in_ok-walk.ensures)

pub bodies::body-returns-clause-right : goal.bodies::body-returns-clause-right
bodies::body-returns-clause-right t c =
    body_is_right c.args.world.now c.args.scene.now _ (body_data c.args.body.now) c.in_ok-walk.ensures

pub bodies::walked-returns-in_ok-returned-in-Expr : goal.bodies::walked-returns-in_ok-returned-in-Expr
unfolding body_uses
bodies::walked-returns-in_ok-returned-in-Expr t c =
    walks_from_nothing c.args.world.now c.args.scene.now _ _ (λ p known d. body_uses p known (note_of (option_copied c.args.note)) d (body_data c.args.body.now)) c.new-walk.ensures.returns c.new-walk.ensures.right
    (walks_as c.args.world.now c.args.scene.now _ _ _ _ (λ p known d. uses_of_expr p known (note_of (option_copied c.args.note)) d c.args.body.now _ c.in-Expr.is) c.in_ok-returned-in-Expr.ensures)

pub bodies::walked-returns-in_ok-stmts-in-Block : goal.bodies::walked-returns-in_ok-stmts-in-Block
unfolding body_uses
bodies::walked-returns-in_ok-stmts-in-Block t c =
    walks_from_nothing c.args.world.now c.args.scene.now _ _ (λ p known d. body_uses p known (note_of (option_copied c.args.note)) d (body_data c.args.body.now)) c.new-walk.ensures.returns c.new-walk.ensures.right
    (walks_as c.args.world.now c.args.scene.now _ _ _ _ (λ p known d. uses_of_block p known (note_of (option_copied c.args.note)) d c.args.body.now _ _ c.as_slice.ensures.value c.in-Block.is) c.in_ok-stmts-in-Block.ensures)

pub bodies::walked-returned-requires : goal.bodies::walked-returned-requires
bodies::walked-returned-requires t c =
    (omega (arith, ap (λ b. body_weight (body_data b)) c.in-Expr.is, c.decreases), c.requires)

pub bodies::walked-stmts-requires : goal.bodies::walked-stmts-requires
bodies::walked-stmts-requires t c =
    (omega (arith, ap (λ b. body_weight (body_data b)) c.in-Block.is, ap (λ ss. stmts_weight (to_stmts (map stmt_data ss))) c.as_slice.ensures.value, c.decreases), c.requires)

pub statements::stmts-stmts-init : goal.statements::stmts-stmts-init
statements::stmts-stmts-init t c =
    stmts_begin c.args.world.now c.args.scene.now (note_of (option_copied c.args.note)) c.args.stmts.now c.args.walk.now _ c.in_ok-here.ensures

pub statements::stmts-stmts-preserved : goal.statements::stmts-stmts-preserved
statements::stmts-stmts-preserved t c =
    stmts_go c.args.world.now c.args.scene.now (note_of (option_copied c.args.note)) c.args.stmts.now c.args.walk.now c.stmts.each-index c.stmts.here _ c.stmts.walk _ c.each-item.result _ c.stmts.invariant c.stmts-test.true c.each-item.is
    c.in_ok-added.ensures.uses c.in_ok-added.ensures.after c.in_ok-here-2.ensures

pub statements::stmts-returns : goal.statements::stmts-returns
statements::stmts-returns t c =
    stmts_end c.args.world.now c.args.scene.now (note_of (option_copied c.args.note)) c.args.stmts.now c.args.walk.now c.stmts.each-index c.stmts.here c.stmts.walk c.stmts-test.false c.stmts.invariant

pub statements::stmts-stmt-requires : goal.statements::stmts-stmt-requires
statements::stmts-stmt-requires t c =
    (omega (arith, stmt_lighter c.args.stmts.now c.stmts.each-index c.each-item.result c.stmts-test.true c.each-item.is, c.decreases), c.requires)

pub statements::stmt-returns-in_ok-finding-in-Const-clause-uses : goal.statements::stmt-returns-in_ok-finding-in-Const-clause-uses
unfolding stmt_uses
statements::stmt-returns-in_ok-finding-in-Const-clause-uses t c =
    walks_as c.args.world.now c.args.scene.now _ _ _ _
    (λ p known d. ap (λ note. use_of d (Declared note) (expr_data c.in-Const.value)) c.note_of.ensures ∙ sym (ap (stmt_uses p known (note_of (option_copied c.args.note)) d) (ap stmt_data c.in-Const.is ∙ stmt_data-Const _ _ _))) c.in_ok-finding-in-Const.ensures.uses

pub statements::stmt-returns-in_ok-finding-in-Const-clause-after : goal.statements::stmt-returns-in_ok-finding-in-Const-clause-after
unfolding after_stmt
statements::stmt-returns-in_ok-finding-in-Const-clause-after t c =
    goes_some c.args.world.now c.args.scene.now c.in-Const.number (record { finding = c.in_ok-finding-in-Const.finding; hold = holds.Fixed }) _ _ (λ p known d. ap (λ note. with_local c.in-Const.number (type_of_value p known d (expr_data c.in-Const.value) note) Fixed d) c.note_of.ensures ∙ sym (ap (after_stmt p known d) (ap stmt_data c.in-Const.is ∙ stmt_data-Const _ _ _))) (declares c.args.world.now c.args.scene.now c.in-Const.number (record { finding = c.in_ok-finding-in-Const.finding; hold = holds.Fixed }) Fixed (λ p known d. type_of_value p known d (expr_data c.in-Const.value) (note_of (option_copied c.note_of.result))) refl c.in_ok-finding-in-Const.ensures.local)

pub statements::stmt-returns-in_ok-finding-in-Let-clause-uses : goal.statements::stmt-returns-in_ok-finding-in-Let-clause-uses
unfolding stmt_uses
statements::stmt-returns-in_ok-finding-in-Let-clause-uses t c =
    walks_as c.args.world.now c.args.scene.now _ _ _ _
    (λ p known d. ap (λ note. value_uses d (Declared note) (option_map expr_data c.in-Let.value)) c.note_of-in-Let.ensures
    ∙ let_uses p known (note_of (option_copied c.args.note)) _ d c.in-Let.number _
    ∙ sym (ap (stmt_uses p known (note_of (option_copied c.args.note)) d) (ap stmt_data c.in-Let.is ∙ stmt_data-Let _ _ _))) c.in_ok-finding-in-Let.ensures.uses

pub statements::stmt-returns-in_ok-finding-in-Let-clause-after : goal.statements::stmt-returns-in_ok-finding-in-Let-clause-after
unfolding after_stmt
statements::stmt-returns-in_ok-finding-in-Let-clause-after t c =
    goes_some c.args.world.now c.args.scene.now c.in-Let.number (record { finding = c.in_ok-finding-in-Let.finding; hold = holds.Variable }) _ _
    (λ p known d. ap (λ note. with_local c.in-Let.number (type_of_variable p known d note (option_map expr_data c.in-Let.value)) Variable d) c.note_of-in-Let.ensures
    ∙ after_let p known _ d c.in-Let.number _
    ∙ sym (ap (after_stmt p known d) (ap stmt_data c.in-Let.is ∙ stmt_data-Let _ _ _)))
    (declares c.args.world.now c.args.scene.now c.in-Let.number (record { finding = c.in_ok-finding-in-Let.finding; hold = holds.Variable }) Variable (λ p known d. type_of_variable p known d (note_of (option_copied c.note_of-in-Let.result)) (option_map expr_data c.in-Let.value)) refl c.in_ok-finding-in-Let.ensures.local)

pub statements::stmt-returns-in_ok-assigned-in-Assign-clause-uses : goal.statements::stmt-returns-in_ok-assigned-in-Assign-clause-uses
unfolding stmt_uses
statements::stmt-returns-in_ok-assigned-in-Assign-clause-uses t c =
    walks_as c.args.world.now c.args.scene.now _ _ _ _
    (λ p known d. sym (ap (stmt_uses p known (note_of (option_copied c.args.note)) d) (ap stmt_data c.in-Assign.is ∙ stmt_data-Assign _ _))) c.in_ok-assigned-in-Assign.ensures

pub statements::stmt-returns-in_ok-assigned-in-Assign-clause-after : goal.statements::stmt-returns-in_ok-assigned-in-Assign-clause-after
unfolding after_stmt
statements::stmt-returns-in_ok-assigned-in-Assign-clause-after t c =
    goes_none c.args.world.now c.args.scene.now (λ p known d. d) _ (λ p known d. sym (ap (after_stmt p known d) (ap stmt_data c.in-Assign.is ∙ stmt_data-Assign _ _))) (stays c.args.world.now c.args.scene.now)

pub statements::stmt-returns-in_ok-returned_if-in-Return-clause-uses : goal.statements::stmt-returns-in_ok-returned_if-in-Return-clause-uses
unfolding stmt_uses
statements::stmt-returns-in_ok-returned_if-in-Return-clause-uses t c =
    walks_as c.args.world.now c.args.scene.now _ _ _ _
    (λ p known d. return_uses p known (note_of (option_copied c.args.note)) d _
    ∙ sym (ap (stmt_uses p known (note_of (option_copied c.args.note)) d) (ap stmt_data c.in-Return.is ∙ stmt_data-Return _))) c.in_ok-returned_if-in-Return.ensures

pub statements::stmt-returns-in_ok-returned_if-in-Return-clause-after : goal.statements::stmt-returns-in_ok-returned_if-in-Return-clause-after
unfolding after_stmt
statements::stmt-returns-in_ok-returned_if-in-Return-clause-after t c =
    goes_none c.args.world.now c.args.scene.now (λ p known d. d) _ (λ p known d. sym (ap (after_stmt p known d) (ap stmt_data c.in-Return.is ∙ stmt_data-Return _))) (stays c.args.world.now c.args.scene.now)

pub statements::stmt-returns-in_ok-alone-in-Value-clause-uses : goal.statements::stmt-returns-in_ok-alone-in-Value-clause-uses
unfolding stmt_uses
statements::stmt-returns-in_ok-alone-in-Value-clause-uses t c =
    walks_as c.args.world.now c.args.scene.now _ _ _ _
    (λ p known d. sym (ap (stmt_uses p known (note_of (option_copied c.args.note)) d) (ap stmt_data c.in-Value.is ∙ stmt_data-Value _))) c.in_ok-alone-in-Value.ensures

pub statements::stmt-returns-in_ok-alone-in-Value-clause-after : goal.statements::stmt-returns-in_ok-alone-in-Value-clause-after
unfolding after_stmt
statements::stmt-returns-in_ok-alone-in-Value-clause-after t c =
    goes_none c.args.world.now c.args.scene.now (λ p known d. d) _ (λ p known d. sym (ap (after_stmt p known d) (ap stmt_data c.in-Value.is ∙ stmt_data-Value _))) (stays c.args.world.now c.args.scene.now)

pub statements::stmt-returns-in_ok-choice-in-If-clause-uses : goal.statements::stmt-returns-in_ok-choice-in-If-clause-uses
unfolding stmt_uses
statements::stmt-returns-in_ok-choice-in-If-clause-uses t c =
    walks_as c.args.world.now c.args.scene.now _ _ _ _
    (λ p known d. ap (λ s. stmt_uses p known (note_of (option_copied c.args.note)) d (tree.If (expr_data c.in-If.condition) (stmt_data s) (maybe_of (option_copied c.other_of.result)))) c.deref.ensures
    ∙ ap (λ other. stmt_uses p known (note_of (option_copied c.args.note)) d (tree.If (expr_data c.in-If.condition) (stmt_data c.in-If.one.value) other)) c.other_of.ensures ∙ sym (ap (stmt_uses p known (note_of (option_copied c.args.note)) d) (ap stmt_data c.in-If.is ∙ stmt_data-If _ _ _))) c.in_ok-choice-in-If.ensures

pub statements::stmt-returns-in_ok-choice-in-If-clause-after : goal.statements::stmt-returns-in_ok-choice-in-If-clause-after
unfolding after_stmt
statements::stmt-returns-in_ok-choice-in-If-clause-after t c =
    goes_none c.args.world.now c.args.scene.now (λ p known d. d) _ (λ p known d. sym (ap (after_stmt p known d) (ap stmt_data c.in-If.is ∙ stmt_data-If _ _ _))) (stays c.args.world.now c.args.scene.now)

pub statements::stmt-returns-in_ok-each_of-in-For-clause-uses : goal.statements::stmt-returns-in_ok-each_of-in-For-clause-uses
unfolding stmt_uses
statements::stmt-returns-in_ok-each_of-in-For-clause-uses t c =
    walks_as c.args.world.now c.args.scene.now _ _ _ _
    (λ p known d. ap (λ s. stmt_uses p known (note_of (option_copied c.args.note)) d (tree.For c.in-For.kind c.in-For.number (expr_data c.in-For.list) (stmt_data s))) c.deref-in-For.ensures
    ∙ sym (ap (stmt_uses p known (note_of (option_copied c.args.note)) d) (ap stmt_data c.in-For.is ∙ stmt_data-For _ _ _ _))) c.in_ok-each_of-in-For.ensures

pub statements::stmt-returns-in_ok-each_of-in-For-clause-after : goal.statements::stmt-returns-in_ok-each_of-in-For-clause-after
unfolding after_stmt
statements::stmt-returns-in_ok-each_of-in-For-clause-after t c =
    goes_none c.args.world.now c.args.scene.now (λ p known d. d) _ (λ p known d. sym (ap (after_stmt p known d) (ap stmt_data c.in-For.is ∙ stmt_data-For _ _ _ _))) (stays c.args.world.now c.args.scene.now)

pub statements::stmt-returns-in_ok-stmts-in-Block-clause-uses : goal.statements::stmt-returns-in_ok-stmts-in-Block-clause-uses
unfolding stmt_uses
statements::stmt-returns-in_ok-stmts-in-Block-clause-uses t c =
    walks_as c.args.world.now c.args.scene.now _ _ _ _
    (λ p known d. ap (λ ss. stmts_uses p known (note_of (option_copied c.args.note)) d (to_stmts (map stmt_data ss))) c.as_slice.ensures.value ∙ sym (ap (stmt_uses p known (note_of (option_copied c.args.note)) d) (ap stmt_data c.in-Block.is ∙ stmt_data-Block _))) c.in_ok-stmts-in-Block.ensures

pub statements::stmt-returns-in_ok-stmts-in-Block-clause-after : goal.statements::stmt-returns-in_ok-stmts-in-Block-clause-after
unfolding after_stmt
statements::stmt-returns-in_ok-stmts-in-Block-clause-after t c =
    goes_none c.args.world.now c.args.scene.now (λ p known d. d) _ (λ p known d. sym (ap (after_stmt p known d) (ap stmt_data c.in-Block.is ∙ stmt_data-Block _))) (stays c.args.world.now c.args.scene.now)

pub statements::stmt-returns-in-Empty-clause-uses : goal.statements::stmt-returns-in-Empty-clause-uses
unfolding stmt_uses
statements::stmt-returns-in-Empty-clause-uses t c =
    walks_as c.args.world.now c.args.scene.now _ _ _ _ (λ p known d. sym (ap (stmt_uses p known (note_of (option_copied c.args.note)) d) (ap stmt_data c.in-Empty.is ∙ stmt_data-Empty))) (walks_none c.args.world.now c.args.scene.now _)

pub statements::stmt-returns-in-Empty-clause-after : goal.statements::stmt-returns-in-Empty-clause-after
unfolding after_stmt
statements::stmt-returns-in-Empty-clause-after t c =
    goes_none c.args.world.now c.args.scene.now (λ p known d. d) _ (λ p known d. sym (ap (after_stmt p known d) (ap stmt_data c.in-Empty.is ∙ stmt_data-Empty))) (stays c.args.world.now c.args.scene.now)

pub statements::stmt-declared-requires : goal.statements::stmt-declared-requires
statements::stmt-declared-requires t c =
    (omega (arith, ap stmt_weight (ap stmt_data c.in-Const.is ∙ stmt_data-Const _ _ _), c.decreases), c.requires)

pub statements::stmt-variable-requires : goal.statements::stmt-variable-requires
statements::stmt-variable-requires t c =
    (omega (arith, ap stmt_weight (ap stmt_data c.in-Let.is ∙ stmt_data-Let _ _ _), c.decreases), c.requires)

pub statements::stmt-returned_if-requires : goal.statements::stmt-returned_if-requires
statements::stmt-returned_if-requires t c =
    (omega (arith, ap stmt_weight (ap stmt_data c.in-Return.is ∙ stmt_data-Return _), c.decreases), c.requires)

pub statements::stmt-assigned-requires : goal.statements::stmt-assigned-requires
statements::stmt-assigned-requires t c =
    (omega (arith, ap stmt_weight (ap stmt_data c.in-Assign.is ∙ stmt_data-Assign _ _), c.decreases), c.requires)

pub statements::stmt-choice-requires : goal.statements::stmt-choice-requires
statements::stmt-choice-requires t c =
    (omega (arith, ap stmt_weight (ap stmt_data c.in-If.is ∙ stmt_data-If _ _ _), ap (λ s. stmt_weight (stmt_data s)) c.deref.ensures, ap else_weight c.other_of.ensures, c.decreases), c.requires)

pub statements::stmt-each_of-requires : goal.statements::stmt-each_of-requires
statements::stmt-each_of-requires t c =
    (omega (arith, ap stmt_weight (ap stmt_data c.in-For.is ∙ stmt_data-For _ _ _ _), ap (λ s. stmt_weight (stmt_data s)) c.deref-in-For.ensures, c.decreases), c.requires)

pub statements::stmt-alone-requires : goal.statements::stmt-alone-requires
statements::stmt-alone-requires t c =
    (omega (arith, ap stmt_weight (ap stmt_data c.in-Value.is ∙ stmt_data-Value _), c.decreases), c.requires)

pub statements::stmt-stmts-requires : goal.statements::stmt-stmts-requires
statements::stmt-stmts-requires t c =
    (omega (arith, ap stmt_weight (ap stmt_data c.in-Block.is ∙ stmt_data-Block _), ap (λ ss. stmts_weight (to_stmts (map stmt_data ss))) c.as_slice.ensures.value, c.decreases), c.requires)

pub statements::nested-returns : goal.statements::nested-returns
statements::nested-returns t c = c.in_ok-stmt.ensures.uses

pub statements::choice-returns-in_default : goal.statements::choice-returns-in_default
statements::choice-returns-in_default t c =
    subst (λ other. Walks c.args.world.now c.args.scene.now c.args.walk.now c.nested.new.walk (λ p known d. stmt_uses p known (note_of (option_copied c.args.note)) d (tree.If (expr_data c.args.condition.now) (stmt_data c.args.one.now) (maybe_of (option_copied other)))))
    (sym c.in_default.is) (walks_if c.args.world.now c.args.scene.now (note_of (option_copied c.args.note)) (expr_data c.args.condition.now) (stmt_data c.args.one.now) _ _ _ _ c.in_ok-alone.ensures (c.in_ok-inner.ensures c.args.world.now) c.in_ok-nested.ensures)

pub statements::choice-returns : goal.statements::choice-returns
statements::choice-returns t c =
    subst (λ other. IfOk c.nested-2.result (λ done. Walks c.args.world.now c.args.scene.now c.args.walk.now c.nested-2.new.walk (λ p known d. stmt_uses p known (note_of (option_copied c.args.note)) d (tree.If (expr_data c.args.condition.now) (stmt_data c.args.one.now) (maybe_of (option_copied other))))))
    (sym c.in-Some.is)
    (if_ok _ _ _
    (λ done walks. walks_either c.args.world.now c.args.scene.now (note_of (option_copied c.args.note)) (expr_data c.args.condition.now) (stmt_data c.args.one.now) _ _ _ _ c.in_ok-alone.ensures (c.in_ok-inner.ensures c.args.world.now) c.in_ok-nested.ensures _ _ (stmt_data c.in-Some.behind.now) (c.in_ok-outer.ensures c.args.world.now) walks)
    c.nested-2.ensures)

pub statements::choice-nested-requires-2 : goal.statements::choice-nested-requires-2
statements::choice-nested-requires-2 t c =
    (omega (arith, ap (λ other. else_weight (maybe_of (option_copied other))) c.in-Some.is, c.decreases), c.requires)

pub statements::each_of-returns : goal.statements::each_of-returns
statements::each_of-returns t c =
    if_ok _ _ _
    (λ done walks. walks_each c.args.world.now c.args.scene.now (note_of (option_copied c.args.note)) c.args.kind c.args.number (expr_data c.args.list.now) (stmt_data c.args.body.now) _ _ _ _ _
    c.in_ok-finding.ensures.uses c.in_ok-finding.ensures.items c.loop_hold-hold.ensures c.in_ok-inner.ensures walks)
    c.nested.ensures

pub statements::alone-returns : goal.statements::alone-returns
statements::alone-returns t c =
    use_over c.args.world.now c.args.scene.now (expr_data c.args.value.now) Alone _ _ _ _ c.in_ok-found.ensures (any_rule c.args.world.now c.args.scene.now _) c.judge.ensures.right (λ d. refl) c.judge.ensures.returns

pub statements::returned-returns : goal.statements::returned-returns
statements::returned-returns t c =
    if_ok _ _ _
    (λ done adds. use_out c.args.world.now c.args.scene.now (expr_data c.args.value.now) (Returned (note_of (option_copied c.args.note))) _ _ _ _ c.in_ok-found.ensures c.in_ok-rule.ensures (c.add.ensures.right ∙ c.judge.ensures.right)
    (λ d. refl) (added_as _ _ _ _ adds c.judge.ensures.returns))
    c.add.ensures.returns

pub statements::returned_if-returns-in-Some : goal.statements::returned_if-returns-in-Some
statements::returned_if-returns-in-Some t c =
    subst (λ o. IfOk c.returned.result (λ done. Walks c.args.world.now c.args.scene.now c.args.walk.now c.returned.new.walk (λ p known d. value_uses d (Returned (note_of (option_copied c.args.note))) (option_map expr_data o))))
    (sym c.in-Some.is) c.returned.ensures

pub statements::returned_if-returns-in-None : goal.statements::returned_if-returns-in-None
statements::returned_if-returns-in-None t c =
    subst (λ o. Walks c.args.world.now c.args.scene.now c.args.walk.now c.args.walk.now (λ p known d. value_uses d (Returned (note_of (option_copied c.args.note))) (option_map expr_data o)))
    (sym c.in-None.is) (walks_none c.args.world.now c.args.scene.now _)

pub statements::returned_if-returned-requires : goal.statements::returned_if-returned-requires
statements::returned_if-returned-requires t c =
    (omega (arith, ap (λ o. maybe_weight (option_map expr_data o)) c.in-Some.is, c.decreases), c.requires)

pub statements::variable-returns-in-Some-clause-uses : goal.statements::variable-returns-in-Some-clause-uses
statements::variable-returns-in-Some-clause-uses t c =
    subst (λ o. IfOk c.declared.result (λ f. Walks c.args.world.now c.args.scene.now c.args.walk.now c.declared.new.walk (λ p known d. value_uses d (Declared (note_of (option_copied c.args.note))) (option_map expr_data o))))
    (sym c.in-Some.is) c.declared.ensures.uses

pub statements::variable-returns-in-Some-clause-local : goal.statements::variable-returns-in-Some-clause-local
statements::variable-returns-in-Some-clause-local t c =
    subst (λ o. IfOk c.declared.result (λ f. FindsAs c.args.world.now c.args.scene.now (finding_data f) (λ p known d. type_of_variable p known d (note_of (option_copied c.args.note)) (option_map expr_data o))))
    (sym c.in-Some.is) c.declared.ensures.local

pub statements::variable-returns-in-None-clause-uses : goal.statements::variable-returns-in-None-clause-uses
statements::variable-returns-in-None-clause-uses t c =
    subst (λ o. IfOk c.without_value.result (λ f. Walks c.args.world.now c.args.scene.now c.args.walk.now c.args.walk.now (λ p known d. value_uses d (Declared (note_of (option_copied c.args.note))) (option_map expr_data o))))
    (sym c.in-None.is) (if_ok _ _ _ (λ f says. walks_none c.args.world.now c.args.scene.now _) c.without_value.ensures)

pub statements::variable-returns-in-None-clause-local : goal.statements::variable-returns-in-None-clause-local
statements::variable-returns-in-None-clause-local t c =
    subst (λ o. IfOk c.without_value.result (λ f. FindsAs c.args.world.now c.args.scene.now (finding_data f) (λ p known d. type_of_variable p known d (note_of (option_copied c.args.note)) (option_map expr_data o))))
    (sym c.in-None.is) c.without_value.ensures

pub statements::variable-declared-requires : goal.statements::variable-declared-requires
statements::variable-declared-requires t c =
    (omega (arith, ap (λ o. maybe_weight (option_map expr_data o)) c.in-Some.is, c.decreases), c.requires)

pub statements::declared-returns-in_ok-meant-in-Some-clause-uses : goal.statements::declared-returns-in_ok-meant-in-Some-clause-uses
statements::declared-returns-in_ok-meant-in-Some-clause-uses t c =
    use_over c.args.world.now c.args.scene.now (expr_data c.args.value.now) (Declared (note_of (option_copied c.args.note))) _ _ _ _ c.in_ok-found.ensures
    (subst
    (λ (o : Option TypeTree). RulesAs c.args.world.now c.args.scene.now c.in_ok-found.found c.fit_of.result (λ p known d u. fits_note p known d u o))
    (sym (ap (λ o. note_of (option_copied o)) c.in-Some.is))
    (note_says c.args.world.now c.args.scene.now (type_tree c.in-Some.node.now) (finding_data c.in_ok-meant-in-Some.meant) c.in_ok-found.found c.fit_of.result c.in_ok-meant-in-Some.ensures c.fit_of.ensures))
    c.judge.ensures.right (λ d. refl) c.judge.ensures.returns

pub statements::declared-returns-in-None-clause-uses : goal.statements::declared-returns-in-None-clause-uses
statements::declared-returns-in-None-clause-uses t c =
    use_over c.args.world.now c.args.scene.now (expr_data c.args.value.now) (Declared (note_of (option_copied c.args.note))) _ _ _ _ c.in_ok-found.ensures
    (subst
    (λ (o : Option TypeTree). RulesAs c.args.world.now c.args.scene.now c.in_ok-found.found (ruled.Met 0) (λ p known d u. fits_note p known d u o))
    (sym (ap (λ o. note_of (option_copied o)) c.in-None.is))
    (no_note_says c.args.world.now c.args.scene.now c.in_ok-found.found))
    c.judge-in-None.ensures.right (λ d. refl) c.judge-in-None.ensures.returns

pub statements::declared-returns-in_ok-meant-in-Some-clause-local : goal.statements::declared-returns-in_ok-meant-in-Some-clause-local
statements::declared-returns-in_ok-meant-in-Some-clause-local t c =
    noted_value c.args.world.now c.args.scene.now (expr_data c.args.value.now) (note_of (option_copied c.args.note)) (type_tree c.in-Some.node.now) (finding_data c.in_ok-meant-in-Some.meant)
    (ap (λ o. note_of (option_copied o)) c.in-Some.is) c.in_ok-meant-in-Some.ensures

pub statements::declared-returns-in-None-clause-local : goal.statements::declared-returns-in-None-clause-local
statements::declared-returns-in-None-clause-local t c =
    value_found c.args.world.now c.args.scene.now (expr_data c.args.value.now) _ c.in_ok-found.ensures (note_of (option_copied c.args.note)) _ (ap (λ o. note_of (option_copied o)) c.in-None.is) c.finding.ensures

pub statements::assigned-returns : goal.statements::assigned-returns
statements::assigned-returns t c =
    use_over c.args.world.now c.args.scene.now (expr_data c.args.value.now) (Assigned c.args.number) _ _ _ _ c.in_ok-found.ensures
    (variable_says c.args.world.now c.args.scene.now c.args.number _ _ c.fits_variable-rule.ensures) c.judge.ensures.right (λ d. refl) c.judge.ensures.returns

pub statements::looped-returns-clause-uses : goal.statements::looped-returns-clause-uses
statements::looped-returns-clause-uses t c =
    if_ok _ _ _ (λ f is. use_over c.args.world.now c.args.scene.now (expr_data c.args.list.now) Looped _ _ _ _ c.in_ok-found.ensures (loop_says c.args.world.now c.args.scene.now _ _ c.loop_rule-rule.ensures) c.judge.ensures.right
    (λ d. refl) c.judge.ensures.returns) c.loop_items.ensures

pub statements::looped-returns-clause-items : goal.statements::looped-returns-clause-items
statements::looped-returns-clause-items t c =
    if_ok _ _ _ (λ f is. items_found c.args.world.now c.args.scene.now (expr_data c.args.list.now) _ c.in_ok-found.ensures (finding_data f) is) c.loop_items.ensures

pub exprs::type_of-subject-requires : goal.exprs::type_of-subject-requires
exprs::type_of-subject-requires t c = (omega (arith, c.decreases), c.requires)

pub exprs::choice-type_of-requires : goal.exprs::choice-type_of-requires
exprs::choice-type_of-requires t c = (omega (arith, c.decreases), c.requires)

pub exprs::choice-type_of-requires-2 : goal.exprs::choice-type_of-requires-2
exprs::choice-type_of-requires-2 t c = (omega (arith, c.decreases), c.requires)

pub exprs::choice-type_of-requires-3 : goal.exprs::choice-type_of-requires-3
exprs::choice-type_of-requires-3 t c = (omega (arith, c.decreases), c.requires)

pub exprs::operand_type-type_of-requires : goal.exprs::operand_type-type_of-requires
exprs::operand_type-type_of-requires t c = (omega (arith, c.decreases), c.requires)

pub exprs::chain-type_of-requires : goal.exprs::chain-type_of-requires
exprs::chain-type_of-requires t c = (omega (arith, c.decreases), c.requires)

pub exprs::with_prefixes-type_of-requires : goal.exprs::with_prefixes-type_of-requires
exprs::with_prefixes-type_of-requires t c = (omega (arith, c.decreases), c.requires)

pub literals::template-holes_fit-requires : goal.literals::template-holes_fit-requires
literals::template-holes_fit-requires t c = (omega (arith, c.decreases), c.requires)

pub literals::literal-literal_fits-requires : goal.literals::literal-literal_fits-requires
literals::literal-literal_fits-requires t c = (omega (arith, c.decreases), c.requires)

pub literals::hole_fits-type_of-requires : goal.literals::hole_fits-type_of-requires
literals::hole_fits-type_of-requires t c = (omega (arith, c.decreases), c.requires)

pub collections::list-items-requires : goal.collections::list-items-requires
collections::list-items-requires t c = (omega (arith, c.decreases), c.requires)

pub collections::item-type_of-requires : goal.collections::item-type_of-requires
collections::item-type_of-requires t c = (omega (arith, c.decreases), c.requires)

pub calls::at_index-type_of-requires : goal.calls::at_index-type_of-requires
calls::at_index-type_of-requires t c = (omega (arith, c.decreases), c.requires)

pub calls::called-subject_call-requires : goal.calls::called-subject_call-requires
calls::called-subject_call-requires t c = (omega (arith, c.decreases), c.requires)

pub calls::subject_call-with_callback-requires : goal.calls::subject_call-with_callback-requires
calls::subject_call-with_callback-requires t c = (omega (arith, c.decreases), c.requires)

pub calls::subject_call-method_call-requires : goal.calls::subject_call-method_call-requires
calls::subject_call-method_call-requires t c = (omega (arith, c.decreases), c.requires)

pub calls::subject_call-function_call-requires : goal.calls::subject_call-function_call-requires
calls::subject_call-function_call-requires t c = (omega (arith, c.decreases), c.requires)

pub calls::subject_call-ambient_call-requires : goal.calls::subject_call-ambient_call-requires
calls::subject_call-ambient_call-requires t c = (omega (arith, c.decreases), c.requires)

pub calls::method_call-types_of-requires : goal.calls::method_call-types_of-requires
calls::method_call-types_of-requires t c = (omega (arith, c.decreases), c.requires)

pub calls::function_call-types_of-requires : goal.calls::function_call-types_of-requires
calls::function_call-types_of-requires t c = (omega (arith, c.decreases), c.requires)

pub calls::ambient_call-types_of-requires : goal.calls::ambient_call-types_of-requires
calls::ambient_call-types_of-requires t c = (omega (arith, c.decreases), c.requires)

pub bodies::body-walked-requires : goal.bodies::body-walked-requires
bodies::body-walked-requires t c = (omega (arith, c.decreases), c.requires)

pub statements::nested-stmt-requires : goal.statements::nested-stmt-requires
statements::nested-stmt-requires t c = (omega (arith, c.decreases), c.requires)

pub statements::choice-alone-requires : goal.statements::choice-alone-requires
statements::choice-alone-requires t c = (omega (arith, c.decreases), c.requires)

pub statements::choice-nested-requires : goal.statements::choice-nested-requires
statements::choice-nested-requires t c = (omega (arith, c.decreases), c.requires)

pub statements::each_of-looped-requires : goal.statements::each_of-looped-requires
statements::each_of-looped-requires t c = (omega (arith, c.decreases), c.requires)

pub statements::each_of-nested-requires : goal.statements::each_of-nested-requires
statements::each_of-nested-requires t c = (omega (arith, c.decreases), c.requires)

pub statements::alone-type_of-requires : goal.statements::alone-type_of-requires
statements::alone-type_of-requires t c = (omega (arith, c.decreases), c.requires)

pub statements::returned-type_of-requires : goal.statements::returned-type_of-requires
statements::returned-type_of-requires t c = (omega (arith, c.decreases), c.requires)

pub statements::declared-type_of-requires : goal.statements::declared-type_of-requires
statements::declared-type_of-requires t c = (omega (arith, c.decreases), c.requires)

pub statements::assigned-type_of-requires : goal.statements::assigned-type_of-requires
statements::assigned-type_of-requires t c = (omega (arith, c.decreases), c.requires)

pub statements::looped-type_of-requires : goal.statements::looped-type_of-requires
statements::looped-type_of-requires t c = (omega (arith, c.decreases), c.requires)
