use Rattle.std.proofs.Common.{◌≡◌, ◌≤◌, take}
use Rattle.bx_tree.specs.Views.{files_of}
use Rattle.bundle_folder.specs.Folders.{Known}
use Rattle.bundle_folder.specs.Unpacking.{AreFreeBut}
use Rattle.bundle_folder.proofs.unpacking.check_places.Given as goal

abbrev pub invariant-files : goal.invariant-files
invariant-files g l = record {
  free : Known (g.F.Folder.holds l.fn.folder) (λ nodes. AreFreeBut l.replace nodes (files_of (take l.file-index l.files)));
  same : g.F.Folder.holds l.folder ≡ g.F.Folder.holds l.fn.folder;
  later : g.F.Folder.faults l.fn.folder ≤ g.F.Folder.faults l.folder;
}
