use Rattle.std.proofs.Common.{[]}
use Rattle.bx_io_folder.specs.Order.{blob_letter, entry_letter}
use Rattle.bx_io_disk.specs.declared.kind.Kind.TheVariants as kinds
use Rattle.bx_io_folder.proofs.Locking.{begun_after, durable_next, may_remove, own_but_removed, removed_is_not_own, removes_own}
use Rattle.bx_io_folder.proofs.ordered.OrderedDisk.give_up.Goals as goal

pub invariant_of-self-clause-durable : goal.invariant_of-self-clause-durable
invariant_of-self-clause-durable g c =
    let path = c.args.begun.now in
    let calls = g.D.Disk.calls c.args.self.now.disk in
    durable_next kinds.Removed path [] calls _ c.remove.ensures.calls
    (may_remove path [] calls c.requires.locked (removes_own path calls c.requires.own) (begun_after blob_letter entry_letter path calls c.requires.begun)) c.args.self.now.durable

pub returns-clause-gone : goal.returns-clause-gone
returns-clause-gone g c = rw c.remove.ensures.calls (removed_is_not_own c.args.begun.now (g.D.Disk.calls c.args.self.now.disk))

pub returns-clause-own : goal.returns-clause-own
returns-clause-own g c q apart = rw c.remove.ensures.calls (own_but_removed c.args.begun.now (g.D.Disk.calls c.args.self.now.disk) q apart)
