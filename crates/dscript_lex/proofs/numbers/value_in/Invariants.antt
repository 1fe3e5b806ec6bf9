use Rattle.std.proofs.Common.{◌≡◌, ◌≤◌, drop}
use Rattle.dscript_lex.specs.declared.limits.TheConstants.{MAX_NUMBER}
use Rattle.dscript_lex.specs.Lexemes.{value_after, value_in}
use Rattle.dscript_lex.proofs.numbers.value_in.Given as goal

abbrev pub invariant-digits : goal.invariant-digits
invariant-digits l = record {
  small : l.value ≤ MAX_NUMBER;
  same : value_after l.base l.value (drop l.digit-index l.digits) ≡ value_in l.base l.digits;
}
