use Rattle.std.proofs.Common.{List, Some, ap, map, sym, ◌∙◌}
use Rattle.dscript_program.specs.Views.{kind_data}
use Rattle.dscript_program.specs.declared.program.DeclKind.{DeclKind}
use Rattle.dscript_value.specs.Plain.{plain_of}
use Rattle.dscript_value.specs.declared.parts.Callee.TheVariants as callees
use Rattle.dscript_value.specs.declared.value.Value.{Value}
use Rattle.dscript_sdk_values.specs.Answers.{function_answer}
use Rattle.dscript_eval_meaning.specs.Evaluating.{answered}
use Rattle.dscript_eval_meaning.specs.Expressions.{declared}
use Rattle.dscript_eval_frames.specs.Forms.{acts_at}
use Rattle.dscript_eval_frames.specs.Views.{seen}
use Rattle.dscript_eval_frames.specs.Works.{comes_by}
use Rattle.dscript_eval_frames.proofs.Kept.{keeps_at}
use Rattle.dscript_eval_frames.proofs.Refused.{faulted}
use Rattle.dscript_eval_exprs.proofs.names.declared_as.Goals as goal

pub returns-in-Const : goal.returns-in-Const
returns-in-Const c =
    let v = seen c.args.machine.now in
    keeps_at _ _ _ _
    (ap (λ (k : DeclKind). comes_by (declared (acts_at v) c.args.file c.args.decl (Some (kind_data k))) v) c.in-Const.is)
    c.constant_value.ensures

pub returns-in-Function : goal.returns-in-Function
returns-in-Function c =
    let v = seen c.args.machine.now in
    keeps_at _ _ _ _
    (ap (λ (k : DeclKind). comes_by (declared (acts_at v) c.args.file c.args.decl (Some (kind_data k))) v) c.in-Function.is
    ∙ ap (λ (xs : List Value). comes_by (answered (function_answer (callees.Place c.in-Function.number) (map plain_of xs))) v)
    (sym c.new-none.ensures.items))
    c.function_value.ensures

pub returns-in-Interface : goal.returns-in-Interface
returns-in-Interface c =
    let v = seen c.args.machine.now in
    faulted _ _ _ _ c.fault.ensures
    (ap (λ (k : DeclKind). comes_by (declared (acts_at v) c.args.file c.args.decl (Some (kind_data k))) v) c.in-Interface.is)

pub returns-in-TypeAlias : goal.returns-in-TypeAlias
returns-in-TypeAlias c =
    let v = seen c.args.machine.now in
    faulted _ _ _ _ c.fault-in-TypeAlias.ensures
    (ap (λ (k : DeclKind). comes_by (declared (acts_at v) c.args.file c.args.decl (Some (kind_data k))) v) c.in-TypeAlias.is)
