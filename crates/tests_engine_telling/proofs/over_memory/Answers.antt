use Rattle.std.proofs.Common.{inr, refl}
use Rattle.tests_engine_telling.proofs.FairStores.{fair_store}
use Rattle.tests_engine_telling.proofs.over_memory.Goals as goal

pub returns : goal.returns
returns g c order is fair whole =
    (c.command.ensures.headline order c.args.source.now.left is (inr (refl, refl))
    (fair_store order c.args.source.now.left c.args.keeper.now.kept.held _ _ refl refl fair)).same whole
