use Rattle.std.proofs.Common.{[]}
use Rattle.std.specs.FinMap.{empty}
use Rattle.bx_io_system.proofs.system_disk.SystemDiskDisk.again.Given as goal

abbrev pub ghost-new : goal.ghost-new
ghost-new g a = ([], empty)
