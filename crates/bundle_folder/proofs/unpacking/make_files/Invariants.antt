use Rattle.std.proofs.Common.{◌≡◌, ◌≤◌, take}
use Rattle.bx_tree.specs.Views.{files_of}
use Rattle.bundle_folder.specs.Folders.{with_files}
use Rattle.bundle_folder.proofs.unpacking.make_files.Given as goal

abbrev pub invariant-files : goal.invariant-files
invariant-files g l = record {
  made : g.F.Folder.holds l.folder ≡ with_files (g.F.Folder.holds l.fn.folder) (files_of (take l.made l.files));
  later : g.F.Folder.faults l.fn.folder ≤ g.F.Folder.faults l.folder;
}
