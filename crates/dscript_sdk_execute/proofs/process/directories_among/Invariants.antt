use Rattle.std.proofs.Common.{◌≡◌, ◌++◌, drop, map}
use Rattle.std.specs.List.{filter_map}
use Rattle.dscript_sdk_execute.specs.Execute.{dir_input, taken_dir}
use Rattle.dscript_sdk_execute.proofs.process.directories_among.Given as goal

abbrev pub invariant-inputs : goal.invariant-inputs
invariant-inputs l =
    l.dirs.items ++ map (dir_input l.pips) (filter_map taken_dir (drop l.input-index l.inputs))
    ≡ map (dir_input l.pips) (filter_map taken_dir l.inputs)
