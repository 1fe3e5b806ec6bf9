use Rattle.std.proofs.Common.{◌≤◌, length}
use Rattle.dscript_parse_tokens.specs.Gives.{kinds}
use Rattle.dscript_parse.proofs.ItemLoop.{ItemsInvariant}
use Rattle.dscript_parse.proofs.project.project.Given as goal

abbrev pub invariant-items : goal.invariant-items
invariant-items l =
    record {
      so_far : ItemsInvariant l.items.items (kinds l.rest) (kinds l.tokens);
      count : length l.rest ≤ length l.tokens;
    }

abbrev pub decreases-items : goal.decreases-items
decreases-items l = length (kinds l.rest)
