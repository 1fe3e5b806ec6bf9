use Rattle.std.proofs.Common.{◌≡◌, map, take}
use Rattle.dscript_names.specs.Lent.{names_lent}
use Rattle.dscript_names.proofs.exported.decl_names.Given as goal

abbrev pub invariant-decls : goal.invariant-decls
invariant-decls l = names_lent l.names.items ≡ map (λ d. d.name) (take l.decl-index l.decls)
