use Rattle.std.proofs.lemmas.Result.{err_from_is_err_and}
use Rattle.dscript_sdk_execute.specs.ExecuteObject.{request_in}
use Rattle.dscript_sdk_execute.proofs.request.read_request.Goals as goal

pub returns-in_err-taken : goal.returns-in_err-taken
unfolding request_in
returns-in_err-taken c =
    let p = err_from_is_err_and c.from_residual-in_err-taken.result c.from_residual-in_err-taken.ensures.1 in
    rw (p.1, p.2) (λ n. simp (c.in_ok-first_argument.ensures, c.in_ok-fields.ensures, c.in_err-taken.ensures n))

pub returns-in_err-made : goal.returns-in_err-made
unfolding request_in
returns-in_err-made c =
    let p = err_from_is_err_and c.from_residual-in_err-made.result c.from_residual-in_err-made.ensures.1 in
    rw (p.1, p.2) (λ n. simp (c.in_ok-first_argument.ensures, c.in_ok-fields.ensures, c.in_ok-taken.ensures, c.in_err-made.ensures n))

pub returns : goal.returns
unfolding request_in
returns c = simp (c.in_ok-first_argument.ensures, c.in_ok-fields.ensures, c.in_ok-taken.ensures, c.in_ok-made.ensures)
