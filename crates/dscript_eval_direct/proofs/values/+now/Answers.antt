use Rattle.std.proofs.Common.{◌≡◌, rules, List, map, Ok, ap, subst, sym, ◌∙◌}
use mir.Syntax.{w32}
use mir.Val.{to_z, of_z}
use Rattle.bx_tree.specs.Paths.{Atoms}
use Rattle.dscript_sdk.specs.Calls.{call_of}
use Rattle.dscript_sdk_pips.specs.States.{State}
use Rattle.dscript_program.specs.BoundTree as tree
use Rattle.dscript_program.specs.BoundTree.{to_elements, to_exprs, to_holes, to_parts, to_props}
use Rattle.dscript_program.specs.Views.{element_data, expr_data, hole_data, operand_data, part_data, prop_data}
use Rattle.dscript_program.proofs.NodeViews.{expr_data-Chain, expr_data-Cond, expr_data-List, expr_data-Name, expr_data-Number}
use Rattle.dscript_program.proofs.NodeViews.{expr_data-Object, expr_data-Path, expr_data-Postfix, expr_data-Str}
use Rattle.dscript_program.proofs.NodeViews.{part_data-Call, part_data-Index, part_data-Member}
use Rattle.dscript_program.specs.declared.bound.BoundElement.{BoundElement}
use Rattle.dscript_program.specs.declared.bound.BoundExpr.{BoundExpr}
use Rattle.dscript_program.specs.declared.bound.BoundHole.{BoundHole}
use Rattle.dscript_program.specs.declared.bound.BoundPart.{BoundPart}
use Rattle.dscript_program.specs.declared.bound.BoundProp.{BoundProp}
use Rattle.dscript_value.specs.Plain.{plain_field, plain_of}
use Rattle.dscript_value.specs.declared.value.Value.{Value}
use Rattle.dscript_value.specs.declared.value.Field.{Field}
use Rattle.dscript_eval_direct.specs.Now.{knowledge}
use Rattle.dscript_eval_direct.proofs.Makes.{all_arguments, all_properties, call_gives, first_argument, first_element, first_property, index_gives, last_element, last_part}
use Rattle.dscript_eval_direct.proofs.Makes.{list_gives, member_gives, next_argument, next_element, next_part, next_property, object_gives}
use Rattle.dscript_eval_direct.proofs.Finds.{part_found, postfix_found}
use Rattle.dscript_eval_direct.proofs.Steps.{chain_from, cond_from, chain_found, found_as, next_left, none_left, operand_found}
use Rattle.dscript_eval_direct.proofs.Steps.{other_found, settled_more, then_found}
use Rattle.dscript_eval_frames.proofs.Rows.{operator_count_row}
use Rattle.std.proofs.lemmas.List.{length-map}
use Rattle.dscript_program.specs.BoundTree.{to_operands}
use Rattle.dscript_eval_direct.proofs.values.+now.Goals as goal

pub value_now-returns-in-Number : goal.value_now-returns-in-Number
value_now-returns-in-Number t c =
    let same : to_z w32 (of_z w32 c.in-Number.number) ≡ c.in-Number.number = search rules in
    found_as (knowledge c.args.known.now) _ _ _ c.args.left
    (ap expr_data c.in-Number.is ∙ expr_data-Number _ ∙ ap tree.Number (sym same)) c.number_now.ensures

pub value_now-returns-in-Str : goal.value_now-returns-in-Str
value_now-returns-in-Str t c =
    found_as (knowledge c.args.known.now) _ _ _ c.args.left
    (ap expr_data c.in-Str.is ∙ expr_data-Str _) c.text_now.ensures

pub value_now-returns-in-Name : goal.value_now-returns-in-Name
value_now-returns-in-Name t c =
    found_as (knowledge c.args.known.now) _ _ _ c.args.left
    (ap expr_data c.in-Name.is ∙ expr_data-Name _) c.named_now.ensures

pub made_now-returns-in-Chain : goal.made_now-returns-in-Chain
made_now-returns-in-Chain t c =
    found_as (knowledge c.args.known.now) _ _ _ c.args.left
    (chain_from _ c.in-Chain.e.value c.deref.result.now c.in-Chain.more.items c.as_slice.result.now
    (ap expr_data c.in-Chain.is ∙ expr_data-Chain c.in-Chain.e c.in-Chain.more) c.deref.ensures c.as_slice.ensures.value)
    c.chain_now.ensures

pub made_now-returns-in-Cond : goal.made_now-returns-in-Cond
made_now-returns-in-Cond t c =
    found_as (knowledge c.args.known.now) _ _ _ c.args.left
    (cond_from _ c.in-Cond.condition.value c.in-Cond.then.value c.in-Cond.other.value c.deref-in-Cond.result.now
    c.deref-in-Cond-2.result.now c.deref-in-Cond-3.result.now
    (ap expr_data c.in-Cond.is ∙ expr_data-Cond c.in-Cond.condition c.in-Cond.then c.in-Cond.other) c.deref-in-Cond.ensures
    c.deref-in-Cond-2.ensures c.deref-in-Cond-3.ensures)
    c.cond_now.ensures

pub chain_now-returns : goal.chain_now-returns
chain_now-returns t c =
    chain_found (knowledge c.args.known.now) _ (expr_data c.args.e.now)
    (to_operands (map operand_data c.args.more.now)) (plain_of c.in_ok-value.value) c.args.left _ _ _
    (operator_count_row (map operand_data c.args.more.now) ∙ length-map c.args.more.now operand_data)
    c.in_ok-after.ensures.0 c.in_ok-after.ensures.1 c.in_ok-value.ensures c.operands_now.ensures

pub cond_now-returns-then-holds : goal.cond_now-returns-then-holds
cond_now-returns-then-holds t c =
    then_found (knowledge c.args.known.now) _ (expr_data c.args.condition.now) (expr_data c.args.then.now)
    (expr_data c.args.other.now) (plain_of c.in_ok-choice.choice) c.args.left _ _ c.in_ok-after.ensures.0
    c.in_ok-after.ensures.1 c.in_ok-choice.ensures (sym c.is_true-holds.ensures ∙ c.if-holds.true)
    c.value_now-then-holds.ensures

pub cond_now-returns-else-holds : goal.cond_now-returns-else-holds
cond_now-returns-else-holds t c =
    other_found (knowledge c.args.known.now) _ (expr_data c.args.condition.now) (expr_data c.args.then.now)
    (expr_data c.args.other.now) (plain_of c.in_ok-choice.choice) c.args.left _ _ c.in_ok-after.ensures.0
    c.in_ok-after.ensures.1 c.in_ok-choice.ensures (sym c.is_true-holds.ensures ∙ c.if-holds.false)
    c.value_now-else-holds.ensures

pub operand_now-returns-then-is_settled : goal.operand_now-returns-then-is_settled
operand_now-returns-then-is_settled t c = λ more y later rest.
    settled_more (knowledge c.args.known.now) (operand_data c.args.operand.now)
    c.operand_parts-operator.result.0 (expr_data c.operand_parts-operator.result.1.now) more (plain_of c.args.value) y
    c.args.left later c.operand_parts-operator.ensures (sym c.is_settled.ensures ∙ c.if-is_settled.true) rest

pub operand_now-returns-in-Some : goal.operand_now-returns-in-Some
operand_now-returns-in-Some t c =
    operand_found (knowledge c.args.known.now) _ (operand_data c.args.operand.now)
    c.operand_parts-operator.result.0 (expr_data c.operand_parts-operator.result.1.now) (plain_of c.args.value)
    (plain_of c.in-Some.right) c.args.left c.in-Some.later c.operand_parts-operator.ensures
    (sym c.is_settled.ensures ∙ c.if-is_settled.false) c.in-Some.ensures c.operated_now.ensures.answer
    c.operated_now.ensures.steps

pub operands_now-operands-preserved : goal.operands_now-operands-preserved
operands_now-operands-preserved t c = λ y later rest.
    c.operands.invariant y later
    (next_left (knowledge c.args.known.now) c.operands.rest.now c.in-Some.others.now c.in-Some.operand.now
    (plain_of c.operands.answer) y c.operands.after later c.in-Some.ensures.cases.0
    (c.in-Some-operand_now.ensures (to_operands (map operand_data c.in-Some.others.now)) y later rest))

pub operands_now-returns : goal.operands_now-returns
operands_now-returns t c =
    c.operands.invariant _ _
    (none_left (knowledge c.args.known.now) c.operands.rest.now (plain_of c.operands.answer)
    c.operands.after c.in_default.ensures.cases)

pub made_now-returns-in-List : goal.made_now-returns-in-List
made_now-returns-in-List t c =
    found_as (knowledge c.args.known.now) _ _ _ c.args.left
    (ap expr_data c.in-List.is ∙ expr_data-List c.in-List.es
    ∙ ap (λ (l : List BoundElement). tree.Elements (to_elements (map element_data l))) (sym c.as_slice-in-List.ensures.value))
    c.elements_now.ensures

pub made_now-returns-in-Object : goal.made_now-returns-in-Object
made_now-returns-in-Object t c =
    found_as (knowledge c.args.known.now) _ _ _ c.args.left
    (ap expr_data c.in-Object.is ∙ expr_data-Object c.in-Object.ps
    ∙ ap (λ (l : List BoundProp). tree.Object (to_props (map prop_data l))) (sym c.as_slice-in-Object.ensures.value))
    c.properties_now.ensures

pub made_now-returns-in-Postfix : goal.made_now-returns-in-Postfix
made_now-returns-in-Postfix t c =
    found_as (knowledge c.args.known.now) _ _ _ c.args.left
    (ap expr_data c.in-Postfix.is ∙ expr_data-Postfix c.in-Postfix.e c.in-Postfix.parts
    ∙ ap (λ (x : BoundExpr). tree.Postfix (expr_data x) (to_parts (map part_data c.in-Postfix.parts.items))) (sym c.deref-in-Postfix.ensures)
    ∙ ap (λ (l : List BoundPart). tree.Postfix (expr_data c.deref-in-Postfix.result.now) (to_parts (map part_data l))) (sym c.as_slice-in-Postfix.ensures.value))
    c.postfix_now.ensures

pub elements_now-returns : goal.elements_now-returns
elements_now-returns t c =
    list_gives (knowledge c.args.known.now) (to_elements (map element_data c.args.es.now)) _
    (plain_of c.in_ok-value.value) c.args.left _ _ c.in_ok-after.ensures.0 c.in_ok-after.ensures.1 c.in_ok-items.ensures
    c.in_ok-value.ensures

pub properties_now-returns : goal.properties_now-returns
properties_now-returns t c =
    object_gives (knowledge c.args.known.now) (to_props (map prop_data c.args.ps.now)) _
    (plain_of c.in_ok-value.value) c.args.left _ _ c.in_ok-after.ensures.0 c.in_ok-after.ensures.1 c.in_ok-fields.ensures
    c.in_ok-value.ensures

pub items_now-elements-init : goal.items_now-elements-init
items_now-elements-init t c = λ xs later all.
    first_element (knowledge c.args.known.now) (to_elements (map element_data c.args.es.now)) _ xs c.args.left
    later (ap (λ (l : List Value). map plain_of l) c.in_ok-made.ensures) all

pub items_now-elements-preserved : goal.items_now-elements-preserved
items_now-elements-preserved t c = λ xs later rest.
    c.elements.invariant xs later
    (next_element (knowledge c.args.known.now) c.elements.rest.now c.in-Some.others.now c.in-Some.element.now
    (expr_data c.element_parts-is_spread.result.1.now) (map plain_of c.elements.made.items) _ (plain_of c.in_ok-value.value) xs
    c.elements.after c.in_ok-value.later later c.in-Some.ensures.cases.0
    (c.element_parts-is_spread.ensures
    ∙ ap (λ b. tree.Element b (expr_data c.element_parts-is_spread.result.1.now)) c.if-is_spread.false)
    c.in_ok-value.ensures (c.add_item.ensures c.if-not-add_item.false) rest)

pub items_now-returns : goal.items_now-returns
items_now-returns t c =
    c.elements.invariant _ _
    (last_element (knowledge c.args.known.now) c.elements.rest.now (map plain_of c.elements.made.items)
    c.elements.after c.in_default.ensures.cases)

pub fields_now-properties-init : goal.fields_now-properties-init
fields_now-properties-init t c = λ fs later all.
    first_property (knowledge c.args.known.now) (to_props (map prop_data c.args.ps.now)) c.args.left _ fs later
    (ap (λ (l : List Field). map plain_field l) c.in_ok-made.ensures) all

pub fields_now-properties-preserved : goal.fields_now-properties-preserved
fields_now-properties-preserved t c =
    next_property (knowledge c.args.known.now) (to_props (map prop_data c.args.ps.now)) c.args.left
    c.properties.rest.now c.in-Some.others.now c.in-Some.property.now c.in_ok-name.name.now (expr_data c.in_ok-name.e.now)
    (map plain_field c.properties.made.items) _ (plain_of c.in_ok-value.value) c.properties.after c.in_ok-value.later
    c.properties.invariant c.in-Some.ensures.cases.0 c.in_ok-name.ensures c.in_ok-value.ensures
    (c.add_field.ensures c.if-not-add_field.false)

pub fields_now-returns : goal.fields_now-returns
fields_now-returns t c =
    all_properties (knowledge c.args.known.now) (to_props (map prop_data c.args.ps.now)) c.args.left
    c.properties.rest.now (map plain_field c.properties.made.items) c.properties.after c.properties.invariant
    c.in_default.ensures.cases

pub postfix_now-returns : goal.postfix_now-returns
postfix_now-returns t c =
    postfix_found (knowledge c.args.known.now) _ (expr_data c.args.e.now)
    (to_parts (map part_data c.args.parts.now)) (plain_of c.in_ok-value.value) c.args.left _ c.in_ok-value.ensures
    c.parts_now.ensures

pub parts_now-parts-preserved : goal.parts_now-parts-preserved
parts_now-parts-preserved t c = λ y later rest.
    c.parts.invariant y later
    (next_part (knowledge c.args.known.now) c.parts.rest.now c.in-Some.others.now c.in-Some.part.now
    (plain_of c.parts.answer) y c.parts.after later c.in-Some.ensures.cases.0
    (c.in-Some-part_now.ensures (to_parts (map part_data c.in-Some.others.now)) y later rest))

pub parts_now-returns : goal.parts_now-returns
parts_now-returns t c =
    c.parts.invariant _ _
    (last_part (knowledge c.args.known.now) c.parts.rest.now (plain_of c.parts.answer) c.parts.after
    c.in_default.ensures.cases)

pub part_now-returns-in-Member : goal.part_now-returns-in-Member
part_now-returns-in-Member t c =
    part_found (knowledge c.args.known.now) _ _ _ (plain_of c.args.value) c.args.left
    (ap part_data c.in-Member.is ∙ part_data-Member _) c.member_now.ensures

pub part_now-returns-in-Index : goal.part_now-returns-in-Index
part_now-returns-in-Index t c =
    part_found (knowledge c.args.known.now) _ _ _ (plain_of c.args.value) c.args.left
    (ap part_data c.in-Index.is ∙ part_data-Index c.in-Index.e
    ∙ ap (λ (x : BoundExpr). tree.Index (expr_data x)) (sym c.deref.ensures))
    c.index_now.ensures

pub index_now-returns-in_ok-found-in-Some : goal.index_now-returns-in_ok-found-in-Some
index_now-returns-in_ok-found-in-Some t c =
    index_gives (knowledge c.args.known.now) (expr_data c.args.e.now) (plain_of c.args.value)
    (plain_of c.in-Some.at) (plain_of c.in_ok-found-in-Some.found) c.args.left _ _ c.in_ok-after.ensures.0
    c.in_ok-after.ensures.1 c.in-Some.ensures c.in_ok-found-in-Some.ensures

pub value_now-returns-in-Path : goal.value_now-returns-in-Path
value_now-returns-in-Path t c =
    found_as (knowledge c.args.known.now) _ _ _ c.args.left
    (ap expr_data c.in-Path.is ∙ expr_data-Path c.in-Path.letter c.in-Path.text c.in-Path.holes
    ∙ ap (λ (l : List BoundHole). tree.Path c.in-Path.letter c.in-Path.text (to_holes (map hole_data l))) (sym c.as_slice.ensures.value))
    c.path_now.ensures

pub part_now-returns-in-Call : goal.part_now-returns-in-Call
part_now-returns-in-Call t c =
    part_found (knowledge c.args.known.now) _ _ _ (plain_of c.args.value) c.args.left
    (ap part_data c.in-Call.is ∙ part_data-Call c.in-Call.args
    ∙ ap (λ (l : List BoundExpr). tree.Call (to_exprs (map expr_data l))) (sym c.as_slice.ensures.value))
    c.apply_now.ensures

pub apply_now-returns : goal.apply_now-returns
apply_now-returns t c =
    let P : List Value → Type 0 = λ l. (spec : Atoms) (s : State)
    → call_of c.in_ok-name.name spec (map plain_of l) s ≡ Ok (plain_of c.in_ok-answer.answer, s) in
    call_gives (knowledge c.args.known.now) (to_exprs (map expr_data c.args.args.now)) (plain_of c.args.value)
    (plain_of c.in_ok-answer.answer) c.in_ok-name.name (map plain_of c.in_ok-values.values.items) c.args.left _ _
    c.in_ok-after.ensures.0 c.in_ok-after.ensures.1 c.in_ok-name.ensures c.in_ok-values.ensures
    (subst P c.as_slice.ensures.value c.in_ok-answer.ensures)

pub arguments_now-arguments-init : goal.arguments_now-arguments-init
arguments_now-arguments-init t c = λ xs later all.
    first_argument (knowledge c.args.known.now) (to_exprs (map expr_data c.args.args.now)) c.args.left _ xs later
    (ap (λ (l : List Value). map plain_of l) c.in_ok-made.ensures) all

pub arguments_now-arguments-preserved : goal.arguments_now-arguments-preserved
arguments_now-arguments-preserved t c =
    next_argument (knowledge c.args.known.now) (to_exprs (map expr_data c.args.args.now)) c.args.left
    c.arguments.rest.now c.in-Some.others.now c.in-Some.e.now (map plain_of c.arguments.made.items) _
    (plain_of c.in_ok-value.value) c.arguments.after c.in_ok-value.later c.arguments.invariant c.in-Some.ensures.cases.0
    c.in_ok-value.ensures (c.add_item.ensures c.if-not-add_item.false)

pub arguments_now-returns : goal.arguments_now-returns
arguments_now-returns t c =
    all_arguments (knowledge c.args.known.now) (to_exprs (map expr_data c.args.args.now)) c.args.left
    c.arguments.rest.now (map plain_of c.arguments.made.items) c.arguments.after c.arguments.invariant
    c.in_default.ensures.cases
