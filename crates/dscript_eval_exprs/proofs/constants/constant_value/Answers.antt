use Rattle.std.proofs.Common.{List, ap, sym, ◌∙◌}
use Rattle.std.specs.declared.alloc.Global.{Global}
use Rattle.std.specs.declared.vec.Vec.{Vec}
use Rattle.dscript_value.specs.Plain.{Plain}
use Rattle.dscript_eval_meaning.specs.Constants.{status_in}
use Rattle.dscript_eval_meaning.specs.Evaluating.{gives}
use Rattle.dscript_eval_frames.specs.Statuses.{status_of, statuses}
use Rattle.dscript_eval_frames.specs.declared.status.Status.{Status}
use Rattle.dscript_eval_frames.specs.Views.{seen}
use Rattle.dscript_eval_frames.specs.Works.{comes_by}
use Rattle.dscript_eval_exprs.proofs.ConstantMoves.{constant_at}
use Rattle.dscript_eval_frames.proofs.Kept.{keeps_at}
use Rattle.dscript_eval_frames.proofs.Refused.{faulted}
use Rattle.dscript_eval_exprs.proofs.constants.constant_value.Goals as goal

pub returns-in_default : goal.returns-in_default
returns-in_default c =
    let table = ap (λ (t : List (Vec Status Global)). status_in (statuses t) c.args.file c.args.decl) (sym c.as_slice.ensures.value) in
    keeps_at _ _ _ _ (constant_at (seen c.args.machine.now) c.args.file c.args.decl _ (table ∙ c.in_default.ensures)) c.demand.ensures

pub returns-in_ok-value-in-Done : goal.returns-in_ok-value-in-Done
returns-in_ok-value-in-Done c =
    let table = ap (λ (t : List (Vec Status Global)). status_in (statuses t) c.args.file c.args.decl) (sym c.as_slice.ensures.value) in
    keeps_at _ _ _ _
    (constant_at (seen c.args.machine.now) c.args.file c.args.decl _ (table ∙ c.in-Some.ensures ∙ ap status_of c.in-Done.is)
    ∙ ap (λ (x : Plain). comes_by (gives x) (seen c.args.machine.now)) (sym c.in_ok-value-in-Done.ensures))
    c.answer.ensures

pub returns-in-Running : goal.returns-in-Running
returns-in-Running c =
    let table = ap (λ (t : List (Vec Status Global)). status_in (statuses t) c.args.file c.args.decl) (sym c.as_slice.ensures.value) in
    faulted _ _ _ _ c.fault.ensures
    (constant_at (seen c.args.machine.now) c.args.file c.args.decl _ (table ∙ c.in-Some.ensures ∙ ap status_of c.in-Running.is))

pub returns-in-Waiting : goal.returns-in-Waiting
returns-in-Waiting c =
    let table = ap (λ (t : List (Vec Status Global)). status_in (statuses t) c.args.file c.args.decl) (sym c.as_slice.ensures.value) in
    keeps_at _ _ _ _
    (constant_at (seen c.args.machine.now) c.args.file c.args.decl _ (table ∙ c.in-Some.ensures ∙ ap status_of c.in-Waiting.is))
    c.demand-in-Waiting.ensures
