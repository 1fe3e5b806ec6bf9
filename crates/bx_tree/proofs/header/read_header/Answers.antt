use Rattle.std.proofs.Common.{sym, ◌∙◌}
use Rattle.std.proofs.lemmas.Bool.{false≢true}
use Rattle.bx_tree.proofs.HeaderParts.{no_header_blank, no_header_length, no_header_line, begins_from}
use Rattle.bx_tree.proofs.header.read_header.Goals as goal

pub returns-in_err-digits : goal.returns-in_err-digits
returns-in_err-digits c =
    rw c.from_residual-in_err-digits.ensures
    (no_header_blank c.args.text.now c.in_ok-after.after.now c.in_ok-after.ensures c.in_err-digits.ensures)

pub returns-then-not-is_length : goal.returns-then-not-is_length
returns-then-not-is_length c =
    no_header_length c.args.text.now c.in_ok-after.after.now c.in_ok-digits.digits.now c.in_ok-digits.after.now
    c.in_ok-after.ensures c.in_ok-digits.ensures.1 c.in_ok-digits.ensures.0
    (λ l. false≢true (sym c.if-not-is_length.true ∙ c.is_length.ensures.1 l))

pub returns-in_err-path : goal.returns-in_err-path
returns-in_err-path c =
    rw c.from_residual-in_err-path.ensures
    (no_header_line c.args.text.now c.in_ok-after.after.now c.in_ok-digits.digits.now c.in_ok-digits.after.now
    c.in_ok-after.ensures c.in_ok-digits.ensures.1 c.in_ok-digits.ensures.0 c.in_err-path.ensures)

pub returns : goal.returns
returns c =
    begins_from c.args.text.now c.in_ok-after.after.now c.in_ok-digits.digits.now c.in_ok-digits.after.now c.in_ok-path.path.now c.in_ok-path.rest.now
    c.in_ok-after.ensures c.in_ok-digits.ensures.1 c.in_ok-path.ensures.1 (c.is_length.ensures.0 c.if-not-is_length.false) c.in_ok-path.ensures.0
