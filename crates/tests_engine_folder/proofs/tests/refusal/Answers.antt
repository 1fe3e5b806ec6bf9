use mathlib.Core.List.{not-mem-nil}
use denote.Param.Send.{sendable}
use Rattle.bx_io_folder.proofs.Telling.{none_named}
use Rattle.bx_io_disk.proofs.mem_disk.MemDisk.TheSendSync.{the_send as disk}
use Rattle.tests_engine_folder.proofs.tests.refusal.Goals as goal

pub new-keeper-requires-send-D : goal.new-keeper-requires-send-D
new-keeper-requires-send-D g c κs = (
  (λ a is. absurd (not-mem-nil is)),
  (search (sendable, disk), (c.new-disk.ensures.calls, (none_named, λ known name named. cc (c.new-disk.ensures.files)))),
)
