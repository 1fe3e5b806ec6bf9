use Rattle.dscript_types.proofs.Judged.{DeclsGo}
use Rattle.dscript_types.proofs.verdicts.is_typed.Given as goal

abbrev pub invariant-decls : goal.invariant-decls
invariant-decls l = DeclsGo l.world l.file l.decls l.decl-index
