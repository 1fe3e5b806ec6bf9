use Rattle.std.proofs.Common.{◌≡◌, IfOk, subst}
use Rattle.dscript_types_meaning.specs.Types.{TypeData}
use Rattle.dscript_types_rows.proofs.Closed.{flag_or_undefined}
use Rattle.dscript_types_rows.proofs.signatures.flag_if_any.Goals as goal

pub returns : goal.returns
returns c = subst (λ (u : TypeData). IfOk c.of_kinds.result (λ t. t ≡ u)) flag_or_undefined c.of_kinds.ensures
