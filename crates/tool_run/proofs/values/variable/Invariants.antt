use Rattle.std.proofs.Common.{◌≡◌, drop}
use Rattle.tool_run.specs.Values.{variable}
use Rattle.tool_run.specs.Values.{variables}
use Rattle.tool_run.proofs.values.variable.Given as goal

abbrev pub invariant-variables : goal.invariant-variables
invariant-variables l = variable (variables (drop l.variable-index l.variables)) l.name ≡ variable (variables l.variables) l.name
