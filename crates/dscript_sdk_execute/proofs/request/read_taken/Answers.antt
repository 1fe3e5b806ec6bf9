use Rattle.std.proofs.lemmas.Result.{err_from_is_err_and}
use Rattle.dscript_sdk_execute.proofs.request.read_taken.Goals as goal

pub returns-in_err-directory : goal.returns-in_err-directory
returns-in_err-directory c =
    let p = err_from_is_err_and c.from_residual-in_err-directory.result c.from_residual-in_err-directory.ensures.1 in
    rw (p.1, p.2) (λ n. simp (c.in_ok-exe.ensures, c.in_ok-arguments.ensures, c.in_err-directory.ensures n))

pub returns-in_err-dependencies : goal.returns-in_err-dependencies
returns-in_err-dependencies c =
    let p = err_from_is_err_and c.from_residual-in_err-dependencies.result c.from_residual-in_err-dependencies.ensures.1 in
    rw (p.1, p.2) (λ n. simp (c.in_ok-exe.ensures, c.in_ok-arguments.ensures, c.in_ok-directory.ensures, c.in_err-dependencies.ensures n))

pub returns : goal.returns
returns c = simp (c.in_ok-exe.ensures, c.in_ok-arguments.ensures, c.in_ok-directory.ensures, c.in_ok-dependencies.ensures)
