use Rattle.std.proofs.Common.{◌≡◌, map, take}
use Rattle.run_record.specs.Answered.{given_in}
use Rattle.run_record.proofs.answers.given_to.Given as goal

abbrev pub invariant-accesses : goal.invariant-accesses
invariant-accesses l = l.answers.items ≡ map (given_in (take l.access-index l.accesses)) l.asks
