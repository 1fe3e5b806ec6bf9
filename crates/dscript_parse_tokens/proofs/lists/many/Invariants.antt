use Rattle.std.proofs.Common.{◌≡◌, ◌≤◌, Bool, List, length}
use Rattle.dscript_lex.specs.declared.token.TokenKind.{TokenKind}
use Rattle.dscript_parse_tokens.specs.Gives.{kinds, EachReads, EachTests}
use Rattle.dscript_parse_tokens.specs.LoopInvariants.{ManyInvariant}
use Rattle.dscript_grammar.specs.Reading.{Reader}
use Rattle.dscript_parse_tokens.proofs.lists.many.Given as goal

abbrev pub invariant-values : goal.invariant-values
invariant-values g l =
    (reader : Reader g.T.Syntax.Tree) (test : List TokenKind → Bool) → EachReads g.T.Syntax.tree reader l.depth.levels (goal.F-post g l.one l.alloc l.depth)
    → EachTests test (goal.G-post g l.goes_on)
    → record {
      so_far : ManyInvariant g.T.Syntax.tree reader test l.values.items l.height (kinds l.rest) (kinds l.tokens);
      within : l.height ≤ l.depth.levels;
    }

abbrev pub decreases-values : goal.decreases-values
decreases-values g l = length (kinds l.rest)
