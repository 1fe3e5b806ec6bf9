use Rattle.std.proofs.Common.{sym, ◌∙◌}
use Rattle.std.proofs.lemmas.Bool.{false≢true}
use Rattle.bundle_folder.proofs.Ends.{on_any_err}
use Rattle.bundle_folder.proofs.unpacking.check_file.Goals as goal

pub returns-clause-asked : goal.returns-clause-asked
returns-clause-asked g c =
    on_any_err c.check_place.result (λ h. false≢true (sym c.if-is_cleared.false ∙ c.is_cleared.ensures.1 h))
