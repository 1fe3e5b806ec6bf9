-- A run of the program as contracts see it.
use Rattle.std.specs.Prelude.{◌≡◌, List, ◌++◌, Option}
use Rattle.observed.specs.declared.access.Access.{Access}
use Rattle.observed.specs.declared.access.End.{End}
use Rattle.tool_run.specs.declared.running.Ran.{Ran}
use Rattle.tool_run.specs.Machine.{Machine}
use Rattle.tool_run.specs.Run.{Run, Turn}

-- the parts of a run, without where they lie in memory
abbrev pub seen : Ran → Run
seen ran = record {
  accesses = ran.accesses.items;
  writes = ran.writes;
  console = ran.console.items;
  end = ran.end;
  steps = ran.steps;
}

-- The step leaves this machine, adds its accesses to those before, and ends so.
pub record Turns (t : Turn) (machine : Machine) (before now : List Access) (end : Option End) : Type 0 where
  pub machine_is : machine ≡ t.machine
  pub recorded : now ≡ before ++ t.accesses
  pub end_is : end ≡ t.end
