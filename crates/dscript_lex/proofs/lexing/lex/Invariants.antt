use Rattle.std.proofs.Common.{◌-◌, ◌≤◌, length, drop, reverse}
use Rattle.std.specs.Prelude.{IsTrue}
use Rattle.dscript_lex.specs.Scanning.{NeverCloses}
use Rattle.dscript_lex.proofs.Cutting.{HasCut}
use Rattle.dscript_lex.proofs.lexing.lex.Given as goal

abbrev pub invariant-lexemes : goal.invariant-lexemes
invariant-lexemes l = record {
  in_range : l.at ≤ length l.bytes;
  has_cut : HasCut l.bytes l.at (reverse l.brackets.items) l.tokens.items;
  unclosed : IsTrue l.unclosed → NeverCloses (drop l.at l.bytes);
}

abbrev pub decreases-lexemes : goal.decreases-lexemes
decreases-lexemes l = length l.bytes - l.at
