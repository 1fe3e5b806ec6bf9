use Rattle.std.proofs.Common.{[]}
use Rattle.std.specs.FinMap.{empty}
use Rattle.bx_io_disk.proofs.mem_disk.MemDisk.new.Given as goal

abbrev pub ghost-new : goal.ghost-new
ghost-new a = ([], empty)
