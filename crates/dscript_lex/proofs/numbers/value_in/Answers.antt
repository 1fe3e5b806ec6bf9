use Rattle.std.proofs.Common.{ℕ, ◌+◌, ◌*◌, ◌<◌, Some, sym, ap, ◌∙◌, arith, drop, get_or}
use Rattle.dscript_lex.specs.declared.limits.TheConstants.{MAX_NUMBER}
use Rattle.dscript_lex.specs.Bytes.{digit_value}
use Rattle.dscript_lex.specs.Lexemes.{at_most_max}
use Rattle.dscript_lex.proofs.NumberGrows.{too_large, value_more}
use Rattle.dscript_lex.proofs.numbers.value_in.Goals as goal

pub returns-then-value-gt-MAX_NUMBER : goal.returns-then-value-gt-MAX_NUMBER
returns-then-value-gt-MAX_NUMBER c =
    let ds = c.args.digits.now in
    let i = c.digits.digit-index in
    let m : ℕ = c.args.base * c.digits.value + digit_value (get_or ds i 0) in
    let above : MAX_NUMBER < m = omega arith in
    sym (too_large c.args.base m (drop (i + 1) ds) c.requires.least above)
    ∙ ap (λ n. at_most_max (Some n)) (sym (value_more c.args.base c.digits.value ds i (omega arith)) ∙ c.digits.invariant.same)
