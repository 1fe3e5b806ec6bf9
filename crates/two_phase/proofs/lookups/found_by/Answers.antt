use Rattle.std.proofs.Common.{Option, IfSome, subst, sym, ◌∙◌}
use Rattle.std.specs.Prelude.{IsTrue}
use Rattle.memo_format.specs.Entries.{output_paths}
use Rattle.two_phase.specs.Finding.{FindsOne, IsEntryFor, IsNamedBy}
use Rattle.two_phase.specs.ReadSets.{IsEntryText, entry_in}
use Rattle.two_phase.specs.declared.fetching.HeldEntry.{HeldEntry}
use Rattle.two_phase_meaning.specs.Usable.{fits}
use Rattle.two_phase.proofs.Tried.{no_entry_on, on_given, parts_of, strong_named}
use Rattle.two_phase.proofs.lookups.found_by.Goals as goal

pub returns-in-Some-clause-found : goal.returns-in-Some-clause-found
returns-in-Some-clause-found g c =
    on_given (g.R.KeepReader.held c.entry_for.new.reader) (g.R.KeepReader.held c.with_outputs.new.reader) c.args.desc.now c.args.selector.now c.in-Some.held.entry c.args.paths.asks c.args.answers.items c.with_outputs.result
    c.with_outputs.ensures.reader.held_is
    (subst (λ (o : Option HeldEntry). FindsOne (g.R.KeepReader.held c.entry_for.new.reader) (λ S x. IsEntryFor S c.args.desc.now c.args.selector.now x) (entry_in o)) c.in-Some.is c.in_ok-held.ensures.found)
    c.with_outputs.ensures.found

pub returns-in-None-clause-found : goal.returns-in-None-clause-found
returns-in-None-clause-found g c =
    no_entry_on (g.R.KeepReader.held c.entry_for.new.reader) c.args.desc.now c.args.selector.now c.args.paths.asks c.args.answers.items
    (subst (λ (o : Option HeldEntry). FindsOne (g.R.KeepReader.held c.entry_for.new.reader) (λ S x. IsEntryFor S c.args.desc.now c.args.selector.now x) (entry_in o)) c.in-None.is c.in_ok-held.ensures.found)

pub with_outputs-requires-clause-strong : goal.with_outputs-requires-clause-strong
with_outputs-requires-clause-strong g c = λ κs live.
    let d = c.args.desc.now in
    let entry = subst (λ (o : Option HeldEntry). IfSome o (λ (e : HeldEntry). IsNamedBy d c.args.selector.now e.entry × IsEntryText e)) c.in-Some.is c.in_ok-held.ensures.entry in
    strong_named c.args.paths.asks d c.args.selector.now c.in-Some.held.entry c.args.answers.items entry.0 c.requires.strong

pub with_outputs-requires-clause-paths : goal.with_outputs-requires-clause-paths
with_outputs-requires-clause-paths g c = λ κs live.
    let d = c.args.desc.now in
    let entry = subst (λ (o : Option HeldEntry). IfSome o (λ (e : HeldEntry). IsNamedBy d c.args.selector.now e.entry × IsEntryText e)) c.in-Some.is c.in_ok-held.ensures.entry in
    c.requires.paths ∙ sym entry.0.paths_are

pub with_outputs-requires-clause-entry : goal.with_outputs-requires-clause-entry
with_outputs-requires-clause-entry g c = λ κs live.
    let d = c.args.desc.now in
    let entry = subst (λ (o : Option HeldEntry). IfSome o (λ (e : HeldEntry). IsNamedBy d c.args.selector.now e.entry × IsEntryText e)) c.in-Some.is c.in_ok-held.ensures.entry in
    entry.1

pub returns-in-Some-clause-of : goal.returns-in-Some-clause-of
returns-in-Some-clause-of g c =
    let d = c.args.desc.now in
    let entry = subst (λ (o : Option HeldEntry). IfSome o (λ (e : HeldEntry). IsNamedBy d c.args.selector.now e.entry × IsEntryText e)) c.in-Some.is c.in_ok-held.ensures.entry in
    let fit = subst (λ (o : Option HeldEntry). IfSome o (λ (e : HeldEntry). IsTrue (fits d.process (output_paths e.entry.outputs)))) c.in-Some.is c.in_ok-held.ensures.fit in
    parts_of d c.in-Some.held.entry c.args.paths.asks c.args.answers.items c.with_outputs.result entry.0.weak_is fit c.with_outputs.ensures.parts
