use Rattle.std.proofs.Common.{◌≡◌, rules, true, false, ap, sym, ◌∙◌}
use Rattle.dscript_eval_direct.proofs.Steps.{cond_from, chain_from}
use mir.Syntax.{w32}
use mir.Val.{to_z, of_z}
use Rattle.dscript_program.specs.Views.{expr_data}
use Rattle.dscript_program.proofs.NodeViews.{expr_data-Arrow, expr_data-Chain, expr_data-Cond, expr_data-False, expr_data-List}
use Rattle.dscript_program.proofs.NodeViews.{expr_data-Name, expr_data-Number, expr_data-Object, expr_data-Path, expr_data-Postfix}
use Rattle.dscript_program.proofs.NodeViews.{expr_data-Str, expr_data-Template, expr_data-True, expr_data-Unary, expr_data-Undefined}
use Rattle.dscript_value.specs.Plain as plain
use Rattle.dscript_sdk_values.specs.Answers.{text_answer}
use Rattle.dscript_sdk_values.proofs.Views.{plain-Flag, plain-Number, plain-Undefined}
use Rattle.dscript_eval_frames.specs.Views.{seen}
use Rattle.dscript_eval_exprs.proofs.Rests.{list_from, object_from, path_from, postfix_from, rest_as}
use Rattle.dscript_eval_exprs.proofs.Rests.{template_from, unary_from, value_as}
use Rattle.dscript_eval_exprs.proofs.exprs.rest.Goals as goal

pub returns-in-Number : goal.returns-in-Number
returns-in-Number c =
    let v = seen c.args.machine.now in
    let same : to_z w32 (of_z w32 c.in-Number.number) ≡ c.in-Number.number = search rules in
    rest_as _ v _ _ _ (ap expr_data c.in-Number.is ∙ expr_data-Number _)
    (value_as _ v _ _ _ (ap plain.Number (sym same) ∙ sym (plain-Number _)) c.answer.ensures)

pub returns-in-Str : goal.returns-in-Str
returns-in-Str c =
    rest_as _ (seen c.args.machine.now) _ _ _ (ap expr_data c.in-Str.is ∙ expr_data-Str _)
    (c.finish.ensures (text_answer c.in-Str.text) c.text_of.ensures)

pub returns-in-True : goal.returns-in-True
returns-in-True c =
    let v = seen c.args.machine.now in
    rest_as _ v _ _ _ (ap expr_data c.in-True.is ∙ expr_data-True)
    (value_as _ v _ _ _ (sym (plain-Flag true)) c.answer-in-True.ensures)

pub returns-in-False : goal.returns-in-False
returns-in-False c =
    let v = seen c.args.machine.now in
    rest_as _ v _ _ _ (ap expr_data c.in-False.is ∙ expr_data-False)
    (value_as _ v _ _ _ (sym (plain-Flag false)) c.answer-in-False.ensures)

pub returns-in-Undefined : goal.returns-in-Undefined
returns-in-Undefined c =
    let v = seen c.args.machine.now in
    rest_as _ v _ _ _ (ap expr_data c.in-Undefined.is ∙ expr_data-Undefined)
    (value_as _ v _ _ _ (sym plain-Undefined) c.answer-in-Undefined.ensures)

pub returns-in-Cond : goal.returns-in-Cond
returns-in-Cond c =
    rest_as _ (seen c.args.machine.now) _ _ _
    (cond_from _ c.in-Cond.condition.value c.in-Cond.then.value c.in-Cond.other.value c.deref.result.now
    c.deref-in-Cond.result.now c.deref-in-Cond-2.result.now
    (ap expr_data c.in-Cond.is ∙ expr_data-Cond c.in-Cond.condition c.in-Cond.then c.in-Cond.other) c.deref.ensures
    c.deref-in-Cond.ensures c.deref-in-Cond-2.ensures)
    c.cond.ensures

pub returns-in-Chain : goal.returns-in-Chain
returns-in-Chain c =
    rest_as _ (seen c.args.machine.now) _ _ _
    (chain_from _ c.in-Chain.first.value c.deref-in-Chain.result.now c.in-Chain.more.items c.as_slice.result.now
    (ap expr_data c.in-Chain.is ∙ expr_data-Chain c.in-Chain.first c.in-Chain.more) c.deref-in-Chain.ensures c.as_slice.ensures.value)
    c.chain.ensures

pub returns-in-Unary : goal.returns-in-Unary
returns-in-Unary c =
    rest_as _ (seen c.args.machine.now) _ _ _
    (unary_from _ c.in-Unary.operand.value c.deref-in-Unary.result.now c.in-Unary.operators.items
    c.as_slice-in-Unary.result.now (ap expr_data c.in-Unary.is ∙ expr_data-Unary c.in-Unary.operators c.in-Unary.operand)
    c.deref-in-Unary.ensures c.as_slice-in-Unary.ensures.value)
    c.unary.ensures

pub returns-in-Name : goal.returns-in-Name
returns-in-Name c =
    rest_as _ (seen c.args.machine.now) _ _ _ (ap expr_data c.in-Name.is ∙ expr_data-Name _) c.name_value.ensures

pub returns-in-Arrow : goal.returns-in-Arrow
returns-in-Arrow c =
    rest_as _ (seen c.args.machine.now) _ _ _ (ap expr_data c.in-Arrow.is ∙ expr_data-Arrow _) c.arrow_value.ensures

pub returns-in-Postfix : goal.returns-in-Postfix
returns-in-Postfix c =
    rest_as _ (seen c.args.machine.now) _ _ _
    (postfix_from _ c.in-Postfix.e.value c.deref-in-Postfix.result.now c.in-Postfix.parts.items
    c.as_slice-in-Postfix.result.now (ap expr_data c.in-Postfix.is ∙ expr_data-Postfix c.in-Postfix.e c.in-Postfix.parts)
    c.deref-in-Postfix.ensures c.as_slice-in-Postfix.ensures.value)
    c.postfix.ensures

pub returns-in-List : goal.returns-in-List
returns-in-List c =
    rest_as _ (seen c.args.machine.now) _ _ _
    (list_from _ c.in-List.es.items c.as_slice-in-List.result.now (ap expr_data c.in-List.is ∙ expr_data-List c.in-List.es)
    c.as_slice-in-List.ensures.value)
    c.begin_list.ensures

pub returns-in-Object : goal.returns-in-Object
returns-in-Object c =
    rest_as _ (seen c.args.machine.now) _ _ _
    (object_from _ c.in-Object.ps.items c.as_slice-in-Object.result.now
    (ap expr_data c.in-Object.is ∙ expr_data-Object c.in-Object.ps) c.as_slice-in-Object.ensures.value)
    c.begin_object.ensures

pub returns-in-Template : goal.returns-in-Template
returns-in-Template c =
    rest_as _ (seen c.args.machine.now) _ _ _
    (template_from _ c.in-Template.text c.in-Template.holes.items c.as_slice-in-Template.result.now
    (ap expr_data c.in-Template.is ∙ expr_data-Template c.in-Template.text c.in-Template.holes) c.as_slice-in-Template.ensures.value)
    c.begin_literal.ensures

pub returns-in-Path : goal.returns-in-Path
returns-in-Path c =
    rest_as _ (seen c.args.machine.now) _ _ _
    (path_from _ c.in-Path.letter c.in-Path.text c.in-Path.holes.items c.as_slice-in-Path.result.now
    (ap expr_data c.in-Path.is ∙ expr_data-Path c.in-Path.letter c.in-Path.text c.in-Path.holes) c.as_slice-in-Path.ensures.value)
    c.any_path.ensures
