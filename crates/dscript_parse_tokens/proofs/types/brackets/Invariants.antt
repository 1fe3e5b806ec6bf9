use Rattle.std.proofs.Common.{length}
use Rattle.dscript_parse_tokens.specs.Gives.{kinds}
use Rattle.dscript_parse_tokens.specs.UnionInvariants.{BracketsInvariant}
use Rattle.dscript_parse_tokens.proofs.types.brackets.Given as goal

abbrev pub invariant-brackets : goal.invariant-brackets
invariant-brackets l = BracketsInvariant l.count (kinds l.rest) (kinds l.tokens)

abbrev pub decreases-brackets : goal.decreases-brackets
decreases-brackets l = length (kinds l.rest)
