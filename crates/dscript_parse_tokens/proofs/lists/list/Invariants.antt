use Rattle.std.proofs.Common.{◌≡◌, ◌≤◌, codes, length}
use Rattle.dscript_parse_tokens.specs.Gives.{kinds, EachReads}
use Rattle.dscript_parse_tokens.specs.Enclosed.{Spelling}
use Rattle.dscript_parse_tokens.specs.LoopInvariants.{ListInvariant}
use Rattle.dscript_grammar.specs.Reading.{Reader}
use Rattle.dscript_parse_tokens.proofs.lists.list.Given as goal

abbrev pub invariant-values : goal.invariant-values
invariant-values g l =
    (reader : Reader g.T.Syntax.Tree) (closer : Spelling) → EachReads g.T.Syntax.tree reader l.depth.levels (goal.F-post g l.one l.alloc l.depth) → l.close ≡ codes closer
    → record {
      so_far : ListInvariant g.T.Syntax.tree reader closer l.values.items l.height (kinds l.rest) (kinds l.tokens);
      within : l.height ≤ l.depth.levels;
    }

abbrev pub decreases-values : goal.decreases-values
decreases-values g l = length (kinds l.rest)
