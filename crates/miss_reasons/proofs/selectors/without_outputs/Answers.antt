use Rattle.std.proofs.Common.{IfSome, Option, subst}
use Rattle.content_store.specs.HeldEntries.{IsHeld}
use Rattle.memo_format.specs.Entries.{IsEntry}
use Rattle.memo_format.specs.declared.entry.Entry.{Entry}
use Rattle.two_phase.specs.Finding.{FindsOne}
use Rattle.miss_reasons.proofs.selectors.without_outputs.Goals as goal

pub with_entry-requires-clause-rise : goal.with_entry-requires-clause-rise
with_entry-requires-clause-rise g c = λ κs live.
    let well : IsEntry c.in-Some.entry = subst (λ (o : Option Entry). IfSome o IsEntry) c.in-Some.is c.in_ok-entry.ensures.entry in
    well.order

pub with_entry-requires-clause-held : goal.with_entry-requires-clause-held
with_entry-requires-clause-held g c = λ κs live.
    subst (λ (o : Option Entry). FindsOne (g.R.KeepReader.held c.entry.new.reader) (λ S x. IsHeld S c.args.selector.now.strong x) o) c.in-Some.is c.in_ok-entry.ensures.found

pub with_entry-requires-clause-not_whole : goal.with_entry-requires-clause-not_whole
with_entry-requires-clause-not_whole g c = λ κs live S told whole.
    let there : IsHeld S c.args.selector.now.strong c.in-Some.entry =
    subst (λ (o : Option Entry). FindsOne (g.R.KeepReader.held c.entry.new.reader) (λ S x. IsHeld S c.args.selector.now.strong x) o) c.in-Some.is c.in_ok-entry.ensures.found S told in
    c.requires.not_whole S (c.in_ok-entry.ensures.reader.held_is S told) c.in-Some.entry there whole

pub returns-in-None-clause-fit : goal.returns-in-None-clause-fit
returns-in-None-clause-fit g c = λ see.
    subst (λ (o : Option Entry). FindsOne (g.R.KeepReader.held c.entry.new.reader) (λ S x. IsHeld S c.args.selector.now.strong x) o) c.in-None.is c.in_ok-entry.ensures.found
