use Rattle.std.proofs.Common.{codes, ap, sym}
use Rattle.dscript_ast.specs.Operators.{spelling}
use Rattle.dscript_ast.proofs.operator.BinaryOp.spelling.Goals as goal

pub returns-in-Or : goal.returns-in-Or
returns-in-Or c = sym (ap (λ o. codes (spelling o)) c.in-Or.is)

pub returns-in-And : goal.returns-in-And
returns-in-And c = sym (ap (λ o. codes (spelling o)) c.in-And.is)

pub returns-in-Equal : goal.returns-in-Equal
returns-in-Equal c = sym (ap (λ o. codes (spelling o)) c.in-Equal.is)

pub returns-in-NotEqual : goal.returns-in-NotEqual
returns-in-NotEqual c = sym (ap (λ o. codes (spelling o)) c.in-NotEqual.is)

pub returns-in-Less : goal.returns-in-Less
returns-in-Less c = sym (ap (λ o. codes (spelling o)) c.in-Less.is)

pub returns-in-LessOrEqual : goal.returns-in-LessOrEqual
returns-in-LessOrEqual c = sym (ap (λ o. codes (spelling o)) c.in-LessOrEqual.is)

pub returns-in-Greater : goal.returns-in-Greater
returns-in-Greater c = sym (ap (λ o. codes (spelling o)) c.in-Greater.is)

pub returns-in-GreaterOrEqual : goal.returns-in-GreaterOrEqual
returns-in-GreaterOrEqual c = sym (ap (λ o. codes (spelling o)) c.in-GreaterOrEqual.is)

pub returns-in-Add : goal.returns-in-Add
returns-in-Add c = sym (ap (λ o. codes (spelling o)) c.in-Add.is)

pub returns-in-Subtract : goal.returns-in-Subtract
returns-in-Subtract c = sym (ap (λ o. codes (spelling o)) c.in-Subtract.is)

pub returns-in-Multiply : goal.returns-in-Multiply
returns-in-Multiply c = sym (ap (λ o. codes (spelling o)) c.in-Multiply.is)
