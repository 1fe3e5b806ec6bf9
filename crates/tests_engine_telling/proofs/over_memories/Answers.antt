use Rattle.std.proofs.Common.{inr, refl}
use Rattle.tests_engine_telling.proofs.FairStores.{fair_stores}
use Rattle.tests_engine_telling.proofs.over_memories.Goals as goal

pub returns : goal.returns
returns g c order is fair graphs whole =
    (c.command_graphs.ensures.headline order c.args.source.now.left is (inr (refl, refl))
    (fair_stores order c.args.source.now.left c.args.keeper.now.kept.held c.args.graphs.now.kept.held _ _ _ refl refl fair refl refl graphs)).same whole
