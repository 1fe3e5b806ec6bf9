use Rattle.std.proofs.Common.{arith}
use Rattle.std.proofs.lemmas.Grind.{common_steps}
use Rattle.bx_io_disk.proofs.Files.{read_found, read_none}
use Rattle.bx_io_disk.proofs.mem_disk.MemDiskDisk.read.Goals as goal

pub returns-in_ok-to_vec-in-Some-clause-found : goal.returns-in_ok-to_vec-in-Some-clause-found
returns-in_ok-to_vec-in-Some-clause-found c =
    read_found c.args.self.now.map c.args.path.now c.in-Some.bytes.now c.in_ok-to_vec-in-Some.field-0.items c.in-Some.ensures.value (grind (arith, common_steps))

pub returns-in-None-clause-found : goal.returns-in-None-clause-found
returns-in-None-clause-found c absent = read_none c.args.self.now.map c.args.path.now c.in-None.ensures.value
