use Rattle.std.proofs.Common.{◌≡◌, ◌++◌, drop, map}
use Rattle.dscript_program.specs.Views.{function_data}
use Rattle.dscript_eval_frames.specs.Codes.{code_data}
use Rattle.dscript_eval_frames.proofs.codes.codes_of.Given as goal

abbrev pub invariant-functions : goal.invariant-functions
invariant-functions l =
    map code_data l.codes.items ++ map function_data (drop l.function-index l.functions) ≡ map function_data l.functions
