use Rattle.std.proofs.Common.{◌≡◌, map, take}
use Rattle.pip_model_types.specs.Made.{made_files}
use Rattle.pip_view_inputs.specs.Contents.{input_file}
use Rattle.pip_view_inputs.proofs.making.input_list.Given as goal

abbrev pub invariant-files : goal.invariant-files
invariant-files l = made_files l.taken.items ≡ map (input_file l.sources l.inputs) (take l.file-index l.files)
