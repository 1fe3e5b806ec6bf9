use Rattle.std.proofs.Common.{ap, arith, sym, ◌∙◌}
use Rattle.dscript_program.specs.Views.{body_data, expr_data}
use Rattle.dscript_value.specs.Plain.{plain_of}
use Rattle.dscript_eval_frames.specs.Codes.{code_data}
use Rattle.dscript_eval_frames.specs.Views.{seen}
use Rattle.dscript_eval.proofs.CallsNow.{called_given}
use Rattle.dscript_eval.proofs.calls_now.call_at_once.Goals as goal

pub returns-in-Expr-clause-given : goal.returns-in-Expr-clause-given
returns-in-Expr-clause-given c holds =
    called_given (seen c.args.machine.now) _ c.args.callbacks.now _ (code_data c.in-Some-code.code.now) (expr_data c.in-Expr.e)
    (plain_of c.in-Some.item.now) (sym c.callee.ensures ∙ c.in-Place.is) c.in-Some.ensures (omega (arith, c.if-machine-eq0.false))
    c.in-Some-code.ensures (ap body_data c.in-Expr.is) (c.callback_at_once.ensures.given holds)
