use Rattle.std.proofs.Common.{length, ◌-◌, ◌≡◌, ◌≤◌, drop}
use Rattle.dscript_lex.specs.Scanning.{reach}
use Rattle.dscript_lex.proofs.ReachByStep.{resume}
use Rattle.dscript_lex.proofs.enclosed.enclosed.Given as goal

abbrev pub invariant-steps : goal.invariant-steps
invariant-steps l = record {
  in_range : l.at ≤ length l.bytes;
  reached : resume l.value.items l.at (reach l.delimiter (drop l.at l.bytes)) ≡ reach l.delimiter l.bytes;
}

abbrev pub decreases-steps : goal.decreases-steps
decreases-steps l = length l.bytes - l.at
