use Rattle.std.proofs.Common.{◌≡◌, map, take}
use Rattle.cache_care.specs.Counts.{drop_count}
use Rattle.cache_care.specs.Planning.{planned_change}
use Rattle.cache_care.proofs.planning.drop_count.Given as goal

abbrev pub invariant-plan : goal.invariant-plan
invariant-plan l = l.count ≡ drop_count (map planned_change (take l.planned-index l.plan))
