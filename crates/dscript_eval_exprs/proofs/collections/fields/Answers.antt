use Rattle.std.proofs.Common.{List, ℕ, ap, sym, ◌∙◌}
use Rattle.dscript_program.specs.Views.{expr_data}
use Rattle.dscript_value.specs.Plain.{Plain, plain_of}
use Rattle.dscript_eval_frames.specs.Views.{View, seen}
use Rattle.dscript_eval_frames.specs.Works.{comes_with}
use Rattle.dscript_eval_frames.specs.declared.work.ExprWork.TheVariants as expr
use Rattle.dscript_eval_frames.specs.declared.work.Work.TheVariants as works
use Rattle.dscript_eval_frames.proofs.ItemLists.{ends_in}
use Rattle.dscript_eval_frames.proofs.Kept.{keeps_at}
use Rattle.dscript_eval_exprs.proofs.AtOnce.{given_then}
use Rattle.dscript_eval_exprs.proofs.CollectionMoves.{field_named, named_field_move, value_next}
use Rattle.dscript_eval_exprs.proofs.collections.fields.Goals as goal

pub returns-then-not-at_once : goal.returns-then-not-at_once
returns-then-not-at_once c =
    keeps_at _ _ _ _
    (c.properties.invariant
    ∙ ap (λ (z : View). comes_with (works.Expr (expr.Fields c.properties.left c.properties.made)) z)
    (sym (c.at_once.ensures.none c.if-not-at_once.true)))
    c.fields_by_work-then-not-at_once.ensures

pub properties-preserved : goal.properties-preserved
properties-preserved c =
    c.properties.invariant
    ∙ field_named (seen c.properties.machine) c.properties.left c.in-Some.others c.in-Some.property.now c.in-Some-named_parts.name.now
    (expr_data c.in-Some-named_parts.e.now) c.properties.made c.in-Some.ensures.cases.0 c.in-Some-named_parts.ensures
    ∙ value_next (seen c.properties.machine) c.in-Some-named_parts.name c.in-Some.others c.in-Some-named_parts.e c.properties.made
    ∙ given_then (seen c.properties.machine) _ c.in-Some-named_parts.e (works.Expr (expr.Named c.in-Some-named_parts.name c.in-Some.others c.properties.made))
    (c.at_once.ensures.given c.if-not-at_once.false)
    ∙ named_field_move _ _ c.in-Some-named_parts.name c.in-Some.others c.properties.made c.add_field.new.fields
    (ends_in _ _ _ _ c.in_ok-add_field.ensures
    (ap (λ (n : List ℕ). (n, plain_of c.take-value.result)) c.in_ok-name.ensures
    ∙ ap (λ (x : Plain). (c.in-Some-named_parts.name.now, x)) c.take-value.ensures.value))
    c.take-value.ensures.taken

pub returns : goal.returns
returns c = keeps_at _ _ _ _ c.properties.invariant c.fields_by_work-2.ensures
