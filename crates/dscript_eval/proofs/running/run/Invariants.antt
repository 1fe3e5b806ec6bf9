use Rattle.std.proofs.Common.{◌≡◌}
use Rattle.dscript_eval_frames.specs.Views.{seen}
use Rattle.dscript_eval_frames.specs.Works.{comes}
use Rattle.dscript_eval.proofs.running.run.Given as goal

abbrev pub invariant-turns : goal.invariant-turns
invariant-turns l = comes (seen l.fn.machine) ≡ comes (seen l.machine)
