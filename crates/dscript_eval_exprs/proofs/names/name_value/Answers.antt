use Rattle.std.proofs.Common.{ap, ◌∙◌}
use Rattle.dscript_program.specs.declared.target.Target.{Target}
use Rattle.dscript_eval_meaning.specs.Expressions.{named}
use Rattle.dscript_eval_frames.specs.Forms.{acts_at}
use Rattle.dscript_eval_frames.specs.Views.{seen}
use Rattle.dscript_eval_frames.specs.Works.{comes_by}
use Rattle.dscript_eval_frames.proofs.Kept.{keeps_at}
use Rattle.dscript_eval_exprs.proofs.NameMoves.{ambient_name, declared_name, local_name}
use Rattle.dscript_eval_exprs.proofs.names.name_value.Goals as goal

pub returns-in_ok-value-in-Local : goal.returns-in_ok-value-in-Local
returns-in_ok-value-in-Local c =
    let v = seen c.args.machine.now in
    keeps_at _ _ _ _
    (ap (λ (t : Target). comes_by (named v.program (acts_at v) t) v) c.in-Local.is
    ∙ local_name v _ _ c.in_ok-value-in-Local.ensures)
    c.answer.ensures

pub returns-in-Declared : goal.returns-in-Declared
returns-in-Declared c =
    let v = seen c.args.machine.now in
    keeps_at _ _ _ _
    (ap (λ (t : Target). comes_by (named v.program (acts_at v) t) v) c.in-Declared.is ∙ declared_name v _ _)
    c.declared.ensures

pub returns-in_ok-function-in-Ambient : goal.returns-in_ok-function-in-Ambient
returns-in_ok-function-in-Ambient c =
    let v = seen c.args.machine.now in
    keeps_at _ _ _ _
    (ap (λ (t : Target). comes_by (named v.program (acts_at v) t) v) c.in-Ambient.is
    ∙ ambient_name v _ _ c.in_ok-function-in-Ambient.ensures)
    c.answer-in-Ambient.ensures
