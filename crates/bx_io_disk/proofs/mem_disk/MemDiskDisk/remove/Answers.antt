use Rattle.std.proofs.Common.{refl}
use Rattle.bx_io.proofs.Mapped.{holdings_drop}
use Rattle.bx_io_disk.proofs.Files.{absent_at, removed_at}
use Rattle.bx_io_disk.proofs.mem_disk.MemDiskDisk.remove.Goals as goal

pub returns-then-is_none-clause-removed : goal.returns-then-is_none-clause-removed
returns-then-is_none-clause-removed c =
    (refl, λ kind. absent_at c.args.self.now.map c.args.path.now c.get.result c.is_none.result c.is_none.ensures c.if-is_none.true c.get.ensures.value)

pub returns-clause-removed : goal.returns-clause-removed
returns-clause-removed c = removed_at _ _ c.args.path.now (holdings_drop c.args.path.now c.args.self.now.map c.remove.new.self c.remove.ensures.updates)
