use Rattle.std.proofs.Common.{◌≡◌, drop, map}
use Rattle.violations.specs.Slots.{slot_files}
use Rattle.pip_model_types.specs.Made.{made_files}
use Rattle.violations.specs.DoubleWrites.{clash_of}
use Rattle.violations.proofs.clashes.first_clash.Given as goal

abbrev pub invariant-files : goal.invariant-files
invariant-files l =
    clash_of l.pips (map slot_files l.slots) l.dirs (made_files (drop l.file-index l.files))
    ≡ clash_of l.pips (map slot_files l.slots) l.dirs (made_files l.files)
