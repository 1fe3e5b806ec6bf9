use Rattle.std.proofs.Common.{inr, refl}
use Rattle.tests_engine_telling.proofs.FairStores.{fair_store}
use Rattle.tests_engine_folder.proofs.over_files.Goals as goal

pub returns : goal.returns
returns g c order held is told fair whole =
    (c.command-status.ensures.headline order c.args.source.now.left is (inr (refl, refl))
    (fair_store order c.args.source.now.left held _ _ told (c.goes_on_telling.ensures refl) fair)).same whole
