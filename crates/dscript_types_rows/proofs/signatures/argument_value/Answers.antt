use Rattle.std.proofs.Common.{◌≡◌, IfOk, subst}
use Rattle.dscript_types_meaning.specs.Types.{TypeData}
use Rattle.dscript_types_rows.proofs.Closed.{argument_is}
use Rattle.dscript_types_rows.proofs.signatures.argument_value.Goals as goal

pub returns : goal.returns
returns c = subst (λ (u : TypeData). IfOk c.of_kinds.result (λ t. t ≡ u)) argument_is c.of_kinds.ensures
