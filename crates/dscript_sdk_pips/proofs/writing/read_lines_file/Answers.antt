use Rattle.std.proofs.Common.{ap, sym, ◌∙◌}
use Rattle.std.proofs.lemmas.Result.{err_from_is_err_and}
use Rattle.dscript_sdk_pips.specs.WriteAllLines.{whole_text}
use Rattle.dscript_sdk_pips.proofs.writing.read_lines_file.Goals as goal

pub returns-in_err-to : goal.returns-in_err-to
returns-in_err-to c =
    let p = err_from_is_err_and c.from_residual-in_err-to.result c.from_residual-in_err-to.ensures.1 in
    rw (p.1, p.2) (λ n. simp (c.in_ok-first_argument.ensures, c.in_ok-fields.ensures, c.in_err-to.ensures n))

pub returns-in_err-lines : goal.returns-in_err-lines
returns-in_err-lines c =
    let p = err_from_is_err_and c.from_residual-in_err-lines.result c.from_residual-in_err-lines.ensures.1 in
    rw (p.1, p.2)
    (λ n. simp (c.in_ok-first_argument.ensures, c.in_ok-fields.ensures, c.in_ok-to.ensures, c.in_err-lines.ensures n))

pub returns-in_err-text : goal.returns-in_err-text
returns-in_err-text c =
    let p = err_from_is_err_and c.from_residual-in_err-text.result c.from_residual-in_err-text.ensures.1 in
    rw (p.1, p.2)
    (λ n.
    let long = ap whole_text (sym c.as_slice.ensures.value) ∙ c.in_err-text.ensures n in
    simp (c.in_ok-first_argument.ensures, c.in_ok-fields.ensures, c.in_ok-to.ensures, c.in_ok-lines.ensures, long))

pub returns : goal.returns
returns c =
    let whole = ap whole_text (sym c.as_slice.ensures.value) ∙ c.in_ok-text.ensures in
    simp (c.in_ok-first_argument.ensures, c.in_ok-fields.ensures, c.in_ok-to.ensures, c.in_ok-lines.ensures, whole)
