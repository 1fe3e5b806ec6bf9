use Rattle.std.proofs.lemmas.Result.{err_from_is_err_and}
use Rattle.dscript_sdk_execute.proofs.tool.read_tool.Goals as goal

pub returns-in_err-read_optional : goal.returns-in_err-read_optional
returns-in_err-read_optional c =
    let p = err_from_is_err_and c.from_residual-in_err-read_optional.result c.from_residual-in_err-read_optional.ensures.1 in
    rw (p.1, p.2)
    (λ n. simp (c.in_ok-fields.ensures, c.in_ok-exe.ensures, c.in_err-read_optional.ensures n))

pub returns : goal.returns
returns c =
    simp (c.in_ok-fields.ensures, c.in_ok-exe.ensures, c.in_ok-read_optional.ensures, c.in_ok-share.ensures)
