use Rattle.std.proofs.Common.{reverse, vec_len}
use Rattle.dscript_lex.specs.Tokens.{NoHole}
use Rattle.dscript_lex.proofs.brackets.has_no_hole.Given as goal

abbrev pub invariant-open : goal.invariant-open
invariant-open l = record {
  back : NoHole (reverse l.brackets.items) → NoHole (reverse l.initial.brackets.items);
  on : NoHole (reverse l.initial.brackets.items) → NoHole (reverse l.brackets.items);
}

abbrev pub decreases-open : goal.decreases-open
decreases-open l = vec_len l.brackets
