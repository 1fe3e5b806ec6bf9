use Rattle.std.proofs.Common.{ap, ◌∙◌}
use Rattle.sha2.specs.Sha256.{sha256}
use Rattle.graph_memo.specs.Finding.{HoldsSpec}
use Rattle.graph_memo.proofs.Usable.{spec_decided}
use Rattle.graph_memo.proofs.Decided.{none_yet, not_all, of_all, one_more}
use Rattle.two_phase.proofs.Used.{ok_no_err, reads_none, reads_on}
use Rattle.graph_memo.proofs.finding.are_held.Goals as goal

pub paths-init : goal.paths-init
paths-init g c = record {
  first = none_yet (HoldsSpec c.args.tree.now) (g.R.KeepReader.held c.args.reader.now) c.args.paths.now;
  reads = reads_none (g.R.KeepReader.held c.args.reader.now) (g.R.KeepReader.bound c.args.reader.now) (g.R.KeepReader.faults c.args.reader.now) ⊥ (λ e. e);
}

pub paths-preserved : goal.paths-preserved
paths-preserved g c = record {
  first =
      one_more (HoldsSpec c.args.tree.now) (g.R.KeepReader.held c.paths.reader) (g.R.KeepReader.held c.is_text_held.new.reader) c.args.paths.now c.paths.path-index
      c.path-item.result c.paths-test.true c.path-item.is c.in_ok-held.ensures.reader.held_is c.paths.invariant.first
      (spec_decided (g.R.KeepReader.held c.is_text_held.new.reader) c.args.tree.now c.path-item.result c.digest_of-digest.result c.in_ok-held.held (c.digest_of-digest.ensures ∙ ap sha256 c.spec_text-text.ensures) c.in_ok-held.ensures.held c.if-not-held.false);
  reads = reads_on _ _ _ _ _ _ _ _ _ _ (ok_no_err _ _) c.paths.invariant.reads c.in_ok-held.ensures.reader;
}

pub returns-then-not-held-clause-held : goal.returns-then-not-held-clause-held
returns-then-not-held-clause-held g c =
    not_all (HoldsSpec c.args.tree.now) (g.R.KeepReader.held c.is_text_held.new.reader) c.args.paths.now c.paths.path-index c.path-item.result c.paths-test.true c.path-item.is
    (spec_decided (g.R.KeepReader.held c.is_text_held.new.reader) c.args.tree.now c.path-item.result c.digest_of-digest.result c.in_ok-held.held (c.digest_of-digest.ensures ∙ ap sha256 c.spec_text-text.ensures) c.in_ok-held.ensures.held c.if-not-held.true)

pub returns-clause-held : goal.returns-clause-held
returns-clause-held g c =
    of_all (HoldsSpec c.args.tree.now) (g.R.KeepReader.held c.paths.reader) c.args.paths.now c.paths.path-index c.paths-test.false c.paths.invariant.first
