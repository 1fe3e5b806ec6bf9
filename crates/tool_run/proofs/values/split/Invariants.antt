use Rattle.std.proofs.Common.{◌≡◌, ◌++◌, ◌≤◌, ◌-◌, length, take, drop}
use Rattle.tool_run.specs.Values.{split_parts}
use Rattle.tool_run.proofs.values.split.Given as goal

abbrev pub invariant-places : goal.invariant-places
invariant-places l = record {
  within : l.at ≤ length l.text;
  before : take l.at l.text ++ (split_parts l.by (drop l.at l.text)).0 ≡ (split_parts l.by l.text).0;
  after : (split_parts l.by (drop l.at l.text)).1 ≡ (split_parts l.by l.text).1;
}

abbrev pub decreases-places : goal.decreases-places
decreases-places l = length l.text - l.at
