use Rattle.tool_run.specs.Described.{described}
use Rattle.tool_run.proofs.AskedAmong.{asks_after}
use Rattle.tool_run.proofs.path_sets.asks_of.Goals as goal

pub accesses-preserved : goal.accesses-preserved
accesses-preserved c =
    asks_after (described c.args.desc.now) c.args.accesses.now c.accesses.access-index c.access-item.result c.accesses.asks.items c.add_asked.new.asks.items _
    c.accesses-test.true c.access-item.is c.in_ok-add_asked.ensures c.accesses.invariant
