use Rattle.std.proofs.Common.{◌≡◌, Option, ap, subst, ◌∙◌}
use Rattle.std.specs.Prelude.{IfSome}
use Rattle.sha2.specs.Sha256.{sha256}
use Rattle.graph_texts.specs.declared.entry.GraphEntry.{GraphEntry}
use Rattle.two_phase.specs.Finding.{FindsOne}
use Rattle.graph_memo.specs.Finding.{IsEntryOf}
use Rattle.graph_memo.proofs.Usable.{none_usable, usable_found, usable_missed}
use Rattle.graph_memo.proofs.finding.usable_entry.Goals as goal

pub is_usable-requires-after_bounds : goal.is_usable-requires-after_bounds
is_usable-requires-after_bounds g c = λ κs within.
    subst (λ (o : Option GraphEntry). IfSome o (λ (e : GraphEntry). e.key ≡ c.digest_of-digest.result)) c.in-Some.is c.in_ok-entry.ensures.key
    ∙ c.digest_of-digest.ensures ∙ ap sha256 (c.as_slice.ensures.value ∙ c.in_ok-key.ensures.text)

pub returns-then-usable-clause-found : goal.returns-then-usable-clause-found
returns-then-usable-clause-found g c =
    usable_found (g.R.KeepReader.held c.entry_of.new.reader) (g.R.KeepReader.held c.is_usable.new.reader) c.args.work.now c.args.tree.now c.args.budget
    c.digest_of-digest.result c.in-Some.entry c.in_ok-usable-in-Some.ensures.reader.held_is
    (subst (λ (o : Option GraphEntry). FindsOne (g.R.KeepReader.held c.entry_of.new.reader) (λ G d. IsEntryOf G c.digest_of-digest.result d) o) c.in-Some.is
    c.in_ok-entry.ensures.found)
    (subst (λ (o : Option GraphEntry). IfSome o (λ (e : GraphEntry). e.key ≡ c.digest_of-digest.result)) c.in-Some.is c.in_ok-entry.ensures.key)
    (rw c.if-usable.true at c.in_ok-usable-in-Some.ensures.usable)

pub returns-in-Some-clause-found : goal.returns-in-Some-clause-found
returns-in-Some-clause-found g c =
    usable_missed (g.R.KeepReader.held c.entry_of.new.reader) (g.R.KeepReader.held c.is_usable.new.reader) c.args.work.now c.args.tree.now c.args.budget
    c.digest_of-digest.result c.in-Some.entry (c.digest_of-digest.ensures ∙ ap sha256 (c.as_slice.ensures.value ∙ c.in_ok-key.ensures.text))
    (subst (λ (o : Option GraphEntry). IfSome o (λ (e : GraphEntry). e.key ≡ c.digest_of-digest.result)) c.in-Some.is c.in_ok-entry.ensures.key)
    c.in_ok-usable-in-Some.ensures.reader.held_is
    (subst (λ (o : Option GraphEntry). FindsOne (g.R.KeepReader.held c.entry_of.new.reader) (λ G d. IsEntryOf G c.digest_of-digest.result d) o) c.in-Some.is
    c.in_ok-entry.ensures.found)
    (rw c.if-usable.false at c.in_ok-usable-in-Some.ensures.usable)

pub returns-clause-found : goal.returns-clause-found
returns-clause-found g c =
    none_usable (g.R.KeepReader.held c.entry_of.new.reader) c.args.work.now c.args.tree.now c.args.budget c.digest_of-digest.result
    (c.digest_of-digest.ensures ∙ ap sha256 (c.as_slice.ensures.value ∙ c.in_ok-key.ensures.text))
    (subst (λ (o : Option GraphEntry). FindsOne (g.R.KeepReader.held c.entry_of.new.reader) (λ G d. IsEntryOf G c.digest_of-digest.result d) o) c.in-None.is
    c.in_ok-entry.ensures.found)
