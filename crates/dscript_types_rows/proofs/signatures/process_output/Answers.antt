use Rattle.std.proofs.Common.{◌≡◌, IfOk, subst}
use Rattle.dscript_types_meaning.specs.Ambients.{directory_type, path_type, shared_directory}
use Rattle.dscript_types_meaning.specs.Types.{TypeData}
use Rattle.dscript_types_meaning.specs.Unions.{join}
use Rattle.dscript_types_rows.proofs.Executed.{two_joins}
use Rattle.dscript_types_rows.proofs.signatures.process_output.Goals as goal

pub returns : goal.returns
returns c =
    subst (λ (u : TypeData). IfOk c.join-2.result (λ t. t ≡ u))
    (two_joins join _ _ _ _ path_type directory_type shared_directory c.in_ok-path.ensures c.in_ok-directories.ensures
    c.in_ok-directory.ensures c.in_ok-shared.ensures)
    c.join-2.ensures
