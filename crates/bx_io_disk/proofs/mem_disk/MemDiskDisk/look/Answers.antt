use Rattle.std.proofs.Common.{◌≡◌, ap, false, is_some, rules, sym, true}
use Rattle.bx_io_disk.proofs.Files.{absent_from, present_at}
use Rattle.bx_io_disk.proofs.mem_disk.MemDiskDisk.look.Goals as goal

pub returns-then-is_some-clause-there : goal.returns-then-is_some-clause-there
returns-then-is_some-clause-there c =
    let there : is_some c.get.result ≡ true = search rules in
    sym (present_at c.args.self.now.map c.args.path.now c.get.result there c.get.ensures.value)

pub returns-else-is_some-clause-there : goal.returns-else-is_some-clause-there
returns-else-is_some-clause-there c =
    let none : is_some c.get.result ≡ false = search rules in
    sym (ap is_some (absent_from c.args.self.now.map c.args.path.now c.get.result none c.get.ensures.value))
