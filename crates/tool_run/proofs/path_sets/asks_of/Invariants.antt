use Rattle.std.proofs.Common.{◌≡◌, ◌++◌, drop}
use Rattle.tool_run.specs.Described.{described}
use Rattle.tool_run.specs.Run.{asks_of}
use Rattle.tool_run.proofs.path_sets.asks_of.Given as goal

abbrev pub invariant-accesses : goal.invariant-accesses
invariant-accesses l = l.asks.items ++ asks_of (described l.desc) (drop l.access-index l.accesses) ≡ asks_of (described l.desc) l.accesses
