-- The search goes over all states in turn.
use Rattle.std.proofs.Common.{◌≡◌, rules, tests, ap, is_some}
use Rattle.std.proofs.lemmas.Iterator.{YieldsList-from_slice}
use Rattle.std.proofs.lemmas.Iterator.Search.{position_from_yields_List}
use Rattle.sched_core.specs.States as states
use Rattle.sched_core.specs.Table.{busy_of}
use Rattle.tests_sched_core.proofs.table.is_free.Goals as goal

pub returns : goal.returns
returns c =
    let found : c.position.result ≡ busy_of c.args.worker c.args.states.now =
    position_from_yields_List (states.holds c.args.worker) _ _ c.position.result c.position.ensures.ran
    (YieldsList-from_slice c.args.states.now cc) (λ x b q k. search (rules, tests)) in
    search (rules, ap is_some found)
