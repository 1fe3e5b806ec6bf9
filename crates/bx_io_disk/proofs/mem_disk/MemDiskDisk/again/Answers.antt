use Rattle.std.proofs.Common.{ap}
use Rattle.std.specs.FinMap.{from_entries}
use Rattle.bx_io.proofs.Mapped.{contents_alike}
use Rattle.bx_io_disk.proofs.mem_disk.MemDiskDisk.again.Goals as goal

pub returns-clause-files : goal.returns-clause-files
returns-clause-files c = ap from_entries (contents_alike c.args.self.now.map.entries c.in_ok-clone.field-0.entries c.in_ok-clone.ensures.cases)
