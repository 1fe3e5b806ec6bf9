use Rattle.std.proofs.Common.{◌≡◌, ◌≤◌, codes, length, not}
use Rattle.dscript_parse_tokens.specs.Gives.{kinds, EachReads}
use Rattle.dscript_parse_tokens.specs.Enclosed.{Spelling}
use Rattle.dscript_parse_tokens.specs.LoopInvariants.{ManyInvariant}
use Rattle.dscript_grammar.specs.Reading.{Reader, at_punctuator}
use Rattle.dscript_parse_tokens.proofs.lists.until.Given as goal

abbrev pub invariant-values : goal.invariant-values
invariant-values g l =
    (reader : Reader g.T.Syntax.Tree) (closer : Spelling) → EachReads g.T.Syntax.tree reader l.depth.levels (goal.F-post g l.one l.alloc l.depth) → l.close ≡ codes closer
    → record {
      so_far : ManyInvariant g.T.Syntax.tree reader (λ us. not (at_punctuator closer us)) l.values.items l.height (kinds l.rest) (kinds l.tokens);
      within : l.height ≤ l.depth.levels;
    }

abbrev pub decreases-values : goal.decreases-values
decreases-values g l = length (kinds l.rest)
