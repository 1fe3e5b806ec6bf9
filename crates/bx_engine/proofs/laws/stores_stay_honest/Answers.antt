use Rattle.std.specs.FinMap.{empty}
use Rattle.bx_engine.proofs.LivesHonest.{life_honest}
use Rattle.bx_engine.proofs.laws.stores_stay_honest.Goals as goal

pub returns-clause-honest : goal.returns-clause-honest
returns-clause-honest c = life_honest

pub returns-clause-from_nothing : goal.returns-clause-from_nothing
returns-clause-from_nothing c T deeds comes = life_honest empty T deeds c.empty_is_honest.ensures comes
