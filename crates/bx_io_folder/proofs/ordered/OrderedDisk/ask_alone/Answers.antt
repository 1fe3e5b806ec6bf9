use Rattle.std.proofs.Common.{◌∙◌, sym, true}
use Rattle.bx_io_folder.specs.Order.{blob_letter, entry_letter}
use Rattle.bx_io_folder.proofs.Locking.{alone_on_ok, asks_lock_alone, durable_lock, folders_lock, unsynced_lock}
use Rattle.bx_io_folder.proofs.ordered.OrderedDisk.ask_alone.Goals as goal

pub invariant_of-self-clause-durable : goal.invariant_of-self-clause-durable
invariant_of-self-clause-durable g c = durable_lock true c.lock-done.result (g.D.Disk.calls c.args.self.now.disk) _ c.lock-done.ensures.calls ∙ c.args.self.now.durable

pub invariant_of-self-clause-blobs_known : goal.invariant_of-self-clause-blobs_known
invariant_of-self-clause-blobs_known g c is = c.args.self.now.blobs_known (sym (unsynced_lock blob_letter true c.lock-done.result (g.D.Disk.calls c.args.self.now.disk) _ c.lock-done.ensures.calls) ∙ is)

pub invariant_of-self-clause-entries_known : goal.invariant_of-self-clause-entries_known
invariant_of-self-clause-entries_known g c is = c.args.self.now.entries_known (sym (unsynced_lock entry_letter true c.lock-done.result (g.D.Disk.calls c.args.self.now.disk) _ c.lock-done.ensures.calls) ∙ is)

pub invariant_of-self-clause-folders_known : goal.invariant_of-self-clause-folders_known
invariant_of-self-clause-folders_known g c is = folders_lock true c.lock-done.result (g.D.Disk.calls c.args.self.now.disk) _ c.lock-done.ensures.calls ∙ c.args.self.now.folders_known is

pub invariant_of-self-clause-asked : goal.invariant_of-self-clause-asked
invariant_of-self-clause-asked g c = asks_lock_alone _ _ _ c.lock-done.ensures.calls

pub returns-clause-held : goal.returns-clause-held
returns-clause-held g c = alone_on_ok _ _ _ c.lock-done.ensures.calls
