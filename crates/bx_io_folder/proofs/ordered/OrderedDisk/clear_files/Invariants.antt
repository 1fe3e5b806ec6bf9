use Rattle.std.proofs.Common.{◌≡◌, ◌≤◌, ℕ, List, None, take, true}
use Rattle.std.specs.FinMap.{get}
use Rattle.bx_io_folder.specs.NamedFiles.{Clears, IsLeft, is_below}
use Rattle.bx_io_disk.specs.Files.{is_locked}
use Rattle.bx_io_folder.proofs.ordered.OrderedDisk.clear_files.Given as goal

abbrev pub invariant-files : goal.invariant-files
invariant-files g l = record {
  clears : g.D.Disk.is_known ≡ true → Clears (g.D.Disk.files l.fn.self.disk) (g.D.Disk.files l.self.disk);
  cleared : g.D.Disk.is_known ≡ true → (path : List ℕ) → IsLeft path → is_below l.fn.kind path (take l.file-index l.files) ≡ true → get (g.D.Disk.files l.self.disk) path ≡ None;
  locked : is_locked true (g.D.Disk.calls l.self.disk) ≡ true;
  alone : l.self.alone ≡ l.fn.self.alone;
  later : g.D.Disk.faults l.fn.self.disk ≤ g.D.Disk.faults l.self.disk;
}
