use Rattle.std.proofs.Common.{take}
use Rattle.bundle_folder.specs.Steps.{AreEntryPaths}
use Rattle.bundle_folder.proofs.packing.paths_in.Given as goal

abbrev pub invariant-entries : goal.invariant-entries
invariant-entries l = AreEntryPaths (take l.entry-index l.entries) l.paths.items
