use Rattle.std.proofs.Common.{◌≡◌, take}
use Rattle.memo_format.specs.Found.{output_lines}
use Rattle.pip_model_types.specs.Made.{made_files}
use Rattle.memo_format.proofs.outputs.outputs_of.Given as goal

abbrev pub invariant-made : goal.invariant-made
invariant-made l = l.outputs.items ≡ output_lines (made_files (take l.file-index l.made))
