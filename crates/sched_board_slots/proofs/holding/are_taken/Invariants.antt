use Rattle.std.proofs.Common.{◌≡◌, map, take}
use Rattle.pip_model_types.specs.Made.{made_files}
use Rattle.pip_view_inputs.specs.Contents.{input_file}
use Rattle.sched_board_slots.proofs.holding.are_taken.Given as goal

abbrev pub invariant-files : goal.invariant-files
invariant-files l = made_files (take l.place l.shown) ≡ map (input_file l.sources l.inputs) (take l.place l.files)
