-- A machine of the program as contracts see it.
use Rattle.tool_run.specs.declared.state.State.{State}
use Rattle.tool_run.specs.Machine.{Machine}

-- the parts of a machine, without where they lie in memory
abbrev pub machine_of : State → Machine
machine_of s = record {
  place = s.place;
  registers = s.registers.items;
  writes = s.writes;
  console = s.console.items;
  spent = s.spent;
}
