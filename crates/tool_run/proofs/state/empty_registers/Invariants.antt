use Rattle.std.proofs.Common.{◌≡◌, ◌≤◌, ◌-◌, [], replicate, vec_len}
use Rattle.tool_run.proofs.state.empty_registers.Given as goal

abbrev pub invariant-registers : goal.invariant-registers
invariant-registers l = record {
  within : vec_len l.registers ≤ 32;
  none : l.registers.items ≡ replicate (vec_len l.registers) [];
}

abbrev pub decreases-registers : goal.decreases-registers
decreases-registers l = 32 - vec_len l.registers
