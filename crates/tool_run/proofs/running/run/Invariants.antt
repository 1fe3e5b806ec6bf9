use Rattle.std.proofs.Common.{◌≡◌, ◌≤◌, ◌-◌}
use Rattle.tool_run.specs.Described.{described}
use Rattle.tool_run.specs.Run.{run_after, run_from, run_of}
use Rattle.tool_run.specs.States.{machine_of}
use Rattle.tool_run.proofs.running.run.Given as goal

abbrev pub invariant-turns : goal.invariant-turns
invariant-turns g l = record {
  within : l.left ≤ l.desc.budget;
  same : g.V.View.answers l.view ≡ g.V.View.answers l.initial.view;
  comes : run_after l.accesses.items (l.desc.budget - l.left) (run_from (described l.desc) (g.V.View.answers l.initial.view) l.tool l.left (machine_of l.state))
      ≡ run_of (described l.desc) (g.V.View.answers l.initial.view);
}

abbrev pub decreases-turns : goal.decreases-turns
decreases-turns g l = l.left
