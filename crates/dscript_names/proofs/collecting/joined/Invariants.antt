use Rattle.std.proofs.Common.{◌≡◌, ◌++◌, take}
use Rattle.dscript_names.proofs.collecting.joined.Given as goal

abbrev pub invariant-earlier : goal.invariant-earlier
invariant-earlier l = l.all.items ≡ take l.name-index l.before

abbrev pub invariant-names : goal.invariant-names
invariant-names l = l.all.items ≡ l.fn.before ++ take l.name-index l.names
