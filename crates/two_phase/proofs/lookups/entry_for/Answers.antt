use Rattle.std.proofs.Common.{Option, subst}
use Rattle.content_store.specs.HeldEntries.{IsHeld}
use Rattle.two_phase.specs.Finding.{FindsOne}
use Rattle.two_phase.specs.ReadSets.{entry_in}
use Rattle.two_phase.specs.declared.fetching.HeldEntry.{HeldEntry}
use Rattle.two_phase.proofs.Fetched.{no_entry_for}
use Rattle.two_phase.proofs.lookups.entry_for.Goals as goal

pub returns-in-None-clause-found : goal.returns-in-None-clause-found
returns-in-None-clause-found g c =
    no_entry_for (g.R.KeepReader.held c.entry.new.reader) c.args.desc.now c.args.selector.now
    (subst (λ (o : Option HeldEntry). FindsOne (g.R.KeepReader.held c.entry.new.reader) (λ S x. IsHeld S c.args.selector.now.strong x) (entry_in o)) c.in-None.is c.in_ok-held.ensures.found)
