use Rattle.std.proofs.Common.{◌≡◌, IfOk, subst}
use Rattle.dscript_types_meaning.specs.Types.{TypeData}
use Rattle.dscript_types_rows.proofs.Closed.{inputs_are}
use Rattle.dscript_types_rows.proofs.signatures.inputs.Goals as goal

pub returns : goal.returns
returns c = subst (λ (u : TypeData). IfOk c.of_kinds.result (λ t. t ≡ u)) inputs_are c.of_kinds.ensures
