use Rattle.std.proofs.Common.{◌*◌, ◌+◌, map}
use Rattle.std.specs.Option.{option_copied}
use Rattle.dscript_program.specs.BoundTree.{to_stmts}
use Rattle.dscript_program.specs.Views.{stmt_data}
use Rattle.dscript_types_scenes.proofs.Ending.{ReturnGoes}
use Rattle.dscript_types_scenes.proofs.Weights.{else_weight, stmt_weight, stmts_weight}
use Rattle.dscript_types_scenes.specs.Statements.{maybe_of}
use Rattle.dscript_types_scenes.proofs.ends.+returns.Given as goal

abbrev pub decreases-returns_nothing : goal.decreases-returns_nothing
decreases-returns_nothing l = 2 * stmt_weight (stmt_data l.stmt.now)

abbrev pub decreases-else_returns_nothing : goal.decreases-else_returns_nothing
decreases-else_returns_nothing l = 2 * else_weight (maybe_of (option_copied l.other))

abbrev pub decreases-some_return_nothing : goal.decreases-some_return_nothing
decreases-some_return_nothing l = 2 * stmts_weight (to_stmts (map stmt_data l.stmts.now)) + 1

abbrev pub invariant-some_return_nothing-stmts : goal.invariant-some_return_nothing-stmts
invariant-some_return_nothing-stmts l = ReturnGoes l.stmts l.stmt-index
