use mathlib.Core.List.{not-mem-nil}
use denote.Param.Send.{sendable}
use Rattle.bx_io_system.proofs.system_disk.SystemDisk.TheSendSync.{the_send as disk}
use Rattle.bxl.proofs.graph_keeper.Goals as goal

pub new-requires-send-D : goal.new-requires-send-D
new-requires-send-D g c κs =
    ((λ a is. absurd (not-mem-nil is)), (search (sendable, disk), (c.new-disk.ensures.calls, (c.requires, λ known name named. absurd (cc)))))
