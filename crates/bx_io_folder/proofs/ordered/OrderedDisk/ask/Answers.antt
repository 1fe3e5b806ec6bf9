use Rattle.std.proofs.Common.{◌∙◌, sym}
use Rattle.bx_io_folder.specs.Order.{blob_letter, entry_letter}
use Rattle.bx_io_folder.proofs.Locking.{asks_lock, durable_lock, excluded_lock, folders_lock, locked_on_ok, own_lock, unsynced_lock}
use Rattle.bx_io_folder.proofs.ordered.OrderedDisk.ask.Goals as goal

pub invariant_of-self-clause-durable : goal.invariant_of-self-clause-durable
invariant_of-self-clause-durable g c = durable_lock _ _ _ _ c.lock.ensures.calls ∙ c.args.self.now.durable

pub invariant_of-self-clause-blobs_known : goal.invariant_of-self-clause-blobs_known
invariant_of-self-clause-blobs_known g c is = c.args.self.now.blobs_known (sym (unsynced_lock blob_letter _ _ _ _ c.lock.ensures.calls) ∙ is)

pub invariant_of-self-clause-entries_known : goal.invariant_of-self-clause-entries_known
invariant_of-self-clause-entries_known g c is = c.args.self.now.entries_known (sym (unsynced_lock entry_letter _ _ _ _ c.lock.ensures.calls) ∙ is)

pub invariant_of-self-clause-folders_known : goal.invariant_of-self-clause-folders_known
invariant_of-self-clause-folders_known g c is = folders_lock _ _ _ _ c.lock.ensures.calls ∙ c.args.self.now.folders_known is

pub invariant_of-self-clause-asked : goal.invariant_of-self-clause-asked
invariant_of-self-clause-asked g c = asks_lock _ _ _ _ c.lock.ensures.calls c.args.self.now.asked

pub returns-clause-held : goal.returns-clause-held
returns-clause-held g c = locked_on_ok _ _ _ _ c.lock.ensures.calls c.args.self.now.asked

pub returns-clause-own : goal.returns-clause-own
returns-clause-own g c path = own_lock _ _ _ _ path c.lock.ensures.calls

pub returns-clause-excluded : goal.returns-clause-excluded
returns-clause-excluded g c is = excluded_lock _ _ _ _ c.lock.ensures.calls c.lock.ensures.stays is
