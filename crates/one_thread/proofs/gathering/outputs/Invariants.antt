use Rattle.std.proofs.Common.{◌≡◌, [], drop, map}
use Rattle.violations.specs.Slots.{slot_files}
use Rattle.one_thread.specs.OneThread.{all_made, put_all}
use Rattle.one_thread.proofs.gathering.outputs.Given as goal

abbrev pub invariant-slots : goal.invariant-slots
invariant-slots l = put_all l.files.entries (all_made (map slot_files (drop l.slot-index l.slots))) ≡ put_all [] (all_made (map slot_files l.slots))
