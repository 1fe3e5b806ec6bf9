use Rattle.std.proofs.Common.{◌≡◌, ◌++◌, drop, map}
use Rattle.dscript_program.specs.declared.program.BoundDecl.{BoundDecl}
use Rattle.dscript_types_known.specs.Findings.{Open}
use Rattle.dscript_types_known.specs.Views.{finding_data}
use Rattle.dscript_types_known.proofs.table.open_entries.Given as goal

abbrev pub invariant-decls : goal.invariant-decls
invariant-decls l =
    map finding_data l.entries.items ++ map (λ (d : BoundDecl). Open) (drop l.decl-index l.decls)
    ≡ map (λ (d : BoundDecl). Open) l.decls
