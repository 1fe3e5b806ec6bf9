use Rattle.std.proofs.lemmas.Result.{err_from_is_err_and}
use Rattle.dscript_sdk_execute.proofs.request.read_made.Goals as goal

pub returns-in_err-variables : goal.returns-in_err-variables
returns-in_err-variables c =
    let p = err_from_is_err_and c.from_residual-in_err-variables.result c.from_residual-in_err-variables.ensures.1 in
    rw (p.1, p.2) (λ n. simp (c.in_ok-outputs.ensures, c.in_ok-console.ensures, c.in_err-variables.ensures n))

pub returns : goal.returns
returns c = simp (c.in_ok-outputs.ensures, c.in_ok-console.ensures, c.in_ok-variables.ensures)
