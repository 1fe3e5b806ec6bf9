use Rattle.std.proofs.Common.{◌∙◌}
use Rattle.bx_io_folder.proofs.Locking.{asks_named, change_named, durable_named, folders_named, gone_named, kept_named, own_but_named}
use Rattle.bx_io_folder.proofs.ordered.OrderedDisk.finish.Goals as goal

pub invariant_of-self-clause-durable : goal.invariant_of-self-clause-durable
invariant_of-self-clause-durable g c =
    durable_named _ _ _ _ _ c.rename-done.ensures.calls c.requires.locked c.requires.own c.requires.stored c.requires.ready c.requires.folders c.args.self.now.durable

pub invariant_of-self-clause-folders_known : goal.invariant_of-self-clause-folders_known
invariant_of-self-clause-folders_known g c is = folders_named _ _ _ _ _ c.rename-done.ensures.calls ∙ c.args.self.now.folders_known is

pub invariant_of-self-clause-asked : goal.invariant_of-self-clause-asked
invariant_of-self-clause-asked g c = asks_named _ _ _ _ _ c.rename-done.ensures.calls ∙ c.args.self.now.asked

pub returns-clause-gone : goal.returns-clause-gone
returns-clause-gone g c = gone_named _ _ _ _ _ c.rename-done.ensures.calls

pub returns-clause-kept : goal.returns-clause-kept
returns-clause-kept g c = kept_named _ _ _ _ _ c.rename-done.ensures.calls c.requires.own

pub returns-clause-own : goal.returns-clause-own
returns-clause-own g c = own_but_named _ _ _ _ _ c.rename-done.ensures.calls

pub returns-clause-locked : goal.returns-clause-locked
returns-clause-locked g c = change_named _ _ _ _ _ c.rename-done.ensures.calls ∙ c.requires.locked
