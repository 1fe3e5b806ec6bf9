use Rattle.std.proofs.Common.{◌*◌, ◌+◌, map}
use Rattle.std.specs.Option.{option_copied}
use Rattle.dscript_program.specs.BoundTree.{to_stmts}
use Rattle.dscript_program.specs.Views.{stmt_data}
use Rattle.dscript_types_scenes.proofs.Ending.{PassGoes}
use Rattle.dscript_types_scenes.proofs.Weights.{else_weight, stmt_weight, stmts_weight}
use Rattle.dscript_types_scenes.specs.Statements.{maybe_of}
use Rattle.dscript_types_scenes.proofs.ends.+ends.Given as goal

abbrev pub decreases-passes : goal.decreases-passes
decreases-passes l = 2 * stmt_weight (stmt_data l.stmt.now)

abbrev pub decreases-else_passes : goal.decreases-else_passes
decreases-else_passes l = 2 * else_weight (maybe_of (option_copied l.other))

abbrev pub decreases-all_pass : goal.decreases-all_pass
decreases-all_pass l = 2 * stmts_weight (to_stmts (map stmt_data l.stmts.now)) + 1

abbrev pub invariant-all_pass-stmts : goal.invariant-all_pass-stmts
invariant-all_pass-stmts l = PassGoes l.stmts l.stmt-index
