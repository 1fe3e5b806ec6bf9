use Rattle.std.proofs.Common.{◌≡◌, IfOk, subst}
use Rattle.dscript_types_meaning.specs.Types.{TypeData}
use Rattle.dscript_types_rows.proofs.Closed.{path_or_directory}
use Rattle.dscript_types_rows.proofs.signatures.path_or_directory.Goals as goal

pub returns : goal.returns
returns c = subst (λ (u : TypeData). IfOk c.of_kinds.result (λ t. t ≡ u)) path_or_directory c.of_kinds.ensures
