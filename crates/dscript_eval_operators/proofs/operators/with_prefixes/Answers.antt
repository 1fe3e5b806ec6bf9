use Rattle.std.proofs.Common.{◌≡◌, ◌∷◌, ◌++◌, ap, ◌∙◌}
use Rattle.dscript_ast.specs.declared.operator.UnaryOp.{UnaryOp}
use Rattle.dscript_value.specs.Plain.{plain_of}
use Rattle.dscript_eval_operators.specs.Operators.{prefixed}
use Rattle.dscript_eval_operators.proofs.PrefixSteps.{nearest_acts, nearest_fails, no_operators}
use Rattle.dscript_eval_operators.proofs.operators.with_prefixes.Goals as goal

pub operators-preserved : goal.operators-preserved
operators-preserved c =
    c.operators.invariant
    ∙ ap (λ ops. prefixed ops (plain_of c.operators.answer)) c.in-Some.ensures.cases.0
    ∙ nearest_acts c.in-Some.others.now c.in-Some.nearest.now (plain_of c.operators.answer) (plain_of c.in-Ok.next)
    c.in-Ok.ensures

pub returns-in-Err : goal.returns-in-Err
returns-in-Err c =
    c.operators.invariant
    ∙ ap (λ ops. prefixed ops (plain_of c.operators.answer)) c.in-Some.ensures.cases.0
    ∙ nearest_fails c.in-Some.others.now c.in-Some.nearest.now (plain_of c.operators.answer) c.in-Err.fault
    c.in-Err.ensures

pub returns : goal.returns
returns c = c.operators.invariant ∙ no_operators c.operators.left.now (plain_of c.operators.answer) c.in_default.ensures.cases
