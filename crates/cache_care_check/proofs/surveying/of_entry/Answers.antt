use Rattle.std.proofs.Common.{Option, subst}
use Rattle.memo_format.specs.declared.entry.Entry.{Entry}
use Rattle.content_store.specs.HeldEntries.{IsHeld}
use Rattle.two_phase.specs.Finding.{FindsOne}
use Rattle.cache_care_check.proofs.Surveyed.{bad_there, no_entry_there}
use Rattle.cache_care_check.proofs.surveying.of_entry.Goals as goal

pub returns-in-None-clause-finding : goal.returns-in-None-clause-finding
returns-in-None-clause-finding g c =
    no_entry_there (g.K.Keeper.known c.held_entry.new.keeper).held c.args.strong.now c.args.name.now c.bytes-bytes.ensures.is_digest c.requires.name
    (subst (λ (o : Option Entry). FindsOne (g.K.Keeper.known c.held_entry.new.keeper).held (λ S x. IsHeld S c.args.strong.now x) o) c.in-None.is
    c.in_ok-entry.ensures.found)

pub returns-clause-finding : goal.returns-clause-finding
returns-clause-finding g c =
    bad_there (g.K.Keeper.known c.held_entry.new.keeper).held (g.K.Keeper.known c.is_honest.new.keeper).held c.args.strong.now c.args.name.now
    c.in-Some.entry c.in_ok-is_honest.field-0 c.requires.name c.in_ok-is_honest.ensures.known.held
    (subst (λ (o : Option Entry). FindsOne (g.K.Keeper.known c.held_entry.new.keeper).held (λ S x. IsHeld S c.args.strong.now x) o) c.in-Some.is
    c.in_ok-entry.ensures.found)
    c.in_ok-is_honest.ensures.honest c.if-branch.false
