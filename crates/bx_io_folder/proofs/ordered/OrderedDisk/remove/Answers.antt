use Rattle.std.proofs.Common.{[]}
use Rattle.bx_io_disk.specs.declared.kind.Kind.TheVariants as kinds
use Rattle.bx_io_folder.proofs.Locking.{durable_next, may_remove, removed_owns_no_more, removes_named}
use Rattle.bx_io_folder.proofs.ordered.OrderedDisk.remove.Goals as goal

pub invariant_of-self-clause-durable : goal.invariant_of-self-clause-durable
invariant_of-self-clause-durable g c =
    let name = c.args.name.now in
    let calls = g.D.Disk.calls c.args.self.now.disk in
    durable_next kinds.Removed name [] calls _ c.remove-done.ensures.calls
    (may_remove name [] calls c.requires.locked (removes_named name calls c.requires.is_name) c.requires.ready) c.args.self.now.durable

pub returns-clause-left : goal.returns-clause-left
returns-clause-left g c path is = removed_owns_no_more _ _ _ c.remove-done.ensures.calls path is
