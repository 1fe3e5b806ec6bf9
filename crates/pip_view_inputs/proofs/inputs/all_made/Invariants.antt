use Rattle.std.proofs.Common.{◌≡◌, map, take}
use Rattle.pip_view_inputs.specs.Views.{input_by}
use Rattle.pip_view_inputs.proofs.inputs.all_made.Given as goal

abbrev pub invariant-inputs : goal.invariant-inputs
invariant-inputs l = l.made.items ≡ map (input_by l.slots) (take l.input-index l.inputs)
