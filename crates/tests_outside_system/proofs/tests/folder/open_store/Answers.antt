use mathlib.Core.List.{not-mem-nil}
use denote.Param.Send.{sendable}
use Rattle.std.proofs.Common.{rules}
use Rattle.bx_io_folder.proofs.Telling.{none_named}
use Rattle.bx_io_system.proofs.system_disk.SystemDisk.TheSendSync.{the_send as disk}
use Rattle.tests_outside_system.proofs.tests.folder.open_store.Goals as goal

pub new-requires-send-D : goal.new-requires-send-D
new-requires-send-D c κs =
    ((λ a is. absurd (not-mem-nil is)), (search (sendable, disk), (c.new-disk.ensures.calls, (none_named, search rules))))
