use Rattle.std.proofs.Common.{◌≡◌, ◌≤◌, codes, length}
use Rattle.dscript_parse_tokens.specs.Gives.{kinds, EachReads}
use Rattle.dscript_parse_tokens.specs.Enclosed.{Spelling}
use Rattle.dscript_parse_tokens.specs.LoopInvariants.{SeparatedInvariant}
use Rattle.dscript_grammar.specs.Reading.{Reader}
use Rattle.dscript_parse_tokens.proofs.lists.separated.Given as goal

abbrev pub invariant-values : goal.invariant-values
invariant-values g l =
    (reader : Reader g.T.Syntax.Tree) (between : Spelling) → EachReads g.T.Syntax.tree reader l.depth.levels (goal.F-post g l.one l.alloc l.depth) → l.separator ≡ codes between
    → record {
      so_far : SeparatedInvariant g.T.Syntax.tree reader between l.values.items l.height (kinds l.rest) (kinds l.tokens);
      within : l.height ≤ l.depth.levels;
    }

abbrev pub decreases-values : goal.decreases-values
decreases-values g l = length (kinds l.rest)
