use Rattle.std.proofs.Common.{take}
use Rattle.dscript_names_scopes.specs.Tables.{AreWithin}
use Rattle.dscript_names_scopes.proofs.names.longest_of.Given as goal

abbrev pub invariant-decls : goal.invariant-decls
invariant-decls l = AreWithin l.longest (take l.decl-index l.decls)
