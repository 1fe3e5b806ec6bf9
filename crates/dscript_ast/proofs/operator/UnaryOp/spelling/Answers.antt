use Rattle.std.proofs.Common.{codes, ap, sym}
use Rattle.dscript_ast.specs.Operators.{unary_spelling}
use Rattle.dscript_ast.proofs.operator.UnaryOp.spelling.Goals as goal

pub returns-in-Not : goal.returns-in-Not
returns-in-Not c = sym (ap (λ o. codes (unary_spelling o)) c.in-Not.is)

pub returns-in-Negate : goal.returns-in-Negate
returns-in-Negate c = sym (ap (λ o. codes (unary_spelling o)) c.in-Negate.is)
