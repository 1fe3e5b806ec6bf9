use Rattle.std.proofs.Common.{◌≡◌, ◌++◌, take}
use Rattle.dscript_names_binding.proofs.decls.joined.Given as goal

abbrev pub invariant-around : goal.invariant-around
invariant-around l = l.all.items ≡ take l.name-index l.around

abbrev pub invariant-names : goal.invariant-names
invariant-names l = l.all.items ≡ l.fn.around ++ take l.name-index l.names
