use Rattle.std.proofs.Common.{◌≡◌, map, take}
use Rattle.std.specs.List.{filter}
use Rattle.dscript_names_scopes.specs.Declarations.{is_exported}
use Rattle.dscript_names.proofs.exported.exported_names.Given as goal

abbrev pub invariant-decls : goal.invariant-decls
invariant-decls l = l.names.items ≡ map (λ d. d.name) (filter (λ d. is_exported d.mark) (take l.decl-index l.decls))
