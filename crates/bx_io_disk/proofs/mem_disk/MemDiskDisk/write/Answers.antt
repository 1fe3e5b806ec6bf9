use Rattle.std.proofs.Common.{arith, string_bytes}
use Rattle.std.proofs.lemmas.Grind.{common_steps}
use Rattle.bx_io.proofs.Mapped.{holdings_put}
use Rattle.bx_io_disk.proofs.Events.{failure_noted}
use Rattle.bx_io_disk.proofs.Files.{written_to}
use Rattle.bx_io_disk.proofs.mem_disk.MemDiskDisk.write.Goals as goal

pub returns-then-bytes-gt-FILE_LIMIT-clause-cause : goal.returns-then-bytes-gt-FILE_LIMIT-clause-cause
returns-then-bytes-gt-FILE_LIMIT-clause-cause c = rw c.fault.ensures.noted (failure_noted _ c.args.self.now.failed.events)

pub returns-clause-written : goal.returns-clause-written
returns-clause-written c =
    written_to _ _ (string_bytes c.in_ok-key.key) c.args.path.now c.in_ok-to_vec.field-0.items c.args.bytes.now
    (holdings_put (string_bytes c.in_ok-key.key) c.args.self.now.map c.insert.new.self c.in_ok-to_vec.field-0 c.in_ok-insert.ensures.updates)
    (grind (arith, common_steps)) (grind (arith, common_steps))
