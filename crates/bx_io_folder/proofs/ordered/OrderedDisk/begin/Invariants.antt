use Rattle.std.proofs.Common.{◌≡◌, ◌<◌, ◌≤◌, true}
use Rattle.bx_io.specs.Causes.{Rose}
use Rattle.bx_io_folder.specs.NamedFiles.{AreTaken}
use Rattle.bx_io_folder.specs.Order.{GoesOn, may_change}
use Rattle.bx_io_folder.proofs.ordered.OrderedDisk.begin.Given as goal

abbrev pub invariant-places : goal.invariant-places
invariant-places g l = record {
  same : g.D.Disk.is_known ≡ true → g.D.Disk.files l.self.disk ≡ g.D.Disk.files l.fn.self.disk;
  goes_on : GoesOn (g.D.Disk.calls l.fn.self.disk) (g.D.Disk.calls l.self.disk);
  locked : may_change (g.D.Disk.calls l.self.disk) ≡ true;
  alone : l.self.alone ≡ l.fn.self.alone;
  taken : g.D.Disk.is_known ≡ true → AreTaken (g.D.Disk.files l.fn.self.disk) l.fn.name l.place;
  later : g.D.Disk.faults l.fn.self.disk ≤ g.D.Disk.faults l.self.disk;
  rose : 0 < l.place → Rose (g.D.Disk.faults l.fn.self.disk) (g.D.Disk.faults l.self.disk);
}
