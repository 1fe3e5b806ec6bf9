use Rattle.std.proofs.Common.{◌≡◌, ◌++◌, take}
use Rattle.dscript_types_notes.proofs.world.+add_names.Given as goal

abbrev pub invariant-names : goal.invariant-names
invariant-names l = l.names.items ≡ l.initial.names.items ++ take l.name-index l.name-items
