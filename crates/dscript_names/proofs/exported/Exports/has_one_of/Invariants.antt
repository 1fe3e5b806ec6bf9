use Rattle.std.proofs.Common.{◌≡◌, length}
use Rattle.std.specs.List.{list_any}
use Rattle.dscript_names.specs.Exports.{exported_at}
use Rattle.dscript_names.proofs.exported.Exports.has_one_of.Given as goal

abbrev pub invariant-names : goal.invariant-names
invariant-names l = list_any (exported_at l.self l.owner) l.left ≡ list_any (exported_at l.self l.owner) l.fn.names

abbrev pub decreases-names : goal.decreases-names
decreases-names l = length l.left
