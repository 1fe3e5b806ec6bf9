use Rattle.bx_io_disk.proofs.Events.{failure_noted}
use Rattle.bx_io_system.proofs.system_disk.note_fault.Goals as goal

pub returns-then-ne-2 : goal.returns-then-ne-2
returns-then-ne-2 g c = rw c.noted.ensures (failure_noted _ c.args.failed.now.events)
