use Rattle.std.proofs.Common.{◌≡◌, drop}
use Rattle.run_record.specs.Outcomes.{first_missing}
use Rattle.run_record.proofs.outcome.missing.Given as goal

abbrev pub invariant-outs : goal.invariant-outs
invariant-outs l = first_missing (drop l.out-index l.outs) l.writes ≡ first_missing l.outs l.writes
