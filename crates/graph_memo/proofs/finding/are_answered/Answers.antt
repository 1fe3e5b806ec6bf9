use Rattle.dscript_sdk_calls.specs.Sources.{tree_answers}
use Rattle.graph_memo.specs.Finding.{IsAnswered}
use Rattle.graph_memo.proofs.Usable.{line_decided}
use Rattle.graph_memo.proofs.Decided.{none_yet, not_all, of_all, one_more}
use Rattle.two_phase.proofs.Used.{ok_no_err, reads_none, reads_on}
use Rattle.graph_memo.proofs.finding.are_answered.Goals as goal

pub lines-init : goal.lines-init
lines-init g c = record {
  first = none_yet (IsAnswered (tree_answers c.args.tree.now)) (g.R.KeepReader.held c.args.reader.now) c.args.lines.now;
  reads = reads_none (g.R.KeepReader.held c.args.reader.now) (g.R.KeepReader.bound c.args.reader.now) (g.R.KeepReader.faults c.args.reader.now) ⊥ (λ e. e);
}

pub lines-preserved : goal.lines-preserved
lines-preserved g c = record {
  first =
      one_more (IsAnswered (tree_answers c.args.tree.now)) (g.R.KeepReader.held c.lines.reader) (g.R.KeepReader.held c.is_answered.new.reader) c.args.lines.now c.lines.line-index
      c.line-item.result c.lines-test.true c.line-item.is c.in_ok-answered.ensures.reader.held_is c.lines.invariant.first
      (line_decided (g.R.KeepReader.held c.is_answered.new.reader) (tree_answers c.args.tree.now) c.line-item.result c.in_ok-answered.answered c.in_ok-answered.ensures.answered c.if-not-answered.false);
  reads = reads_on _ _ _ _ _ _ _ _ _ _ (ok_no_err _ _) c.lines.invariant.reads c.in_ok-answered.ensures.reader;
}

pub returns-then-not-answered-clause-answered : goal.returns-then-not-answered-clause-answered
returns-then-not-answered-clause-answered g c =
    not_all (IsAnswered (tree_answers c.args.tree.now)) (g.R.KeepReader.held c.is_answered.new.reader) c.args.lines.now c.lines.line-index c.line-item.result c.lines-test.true c.line-item.is
    (line_decided (g.R.KeepReader.held c.is_answered.new.reader) (tree_answers c.args.tree.now) c.line-item.result c.in_ok-answered.answered c.in_ok-answered.ensures.answered c.if-not-answered.true)

pub returns-clause-answered : goal.returns-clause-answered
returns-clause-answered g c =
    of_all (IsAnswered (tree_answers c.args.tree.now)) (g.R.KeepReader.held c.lines.reader) c.args.lines.now c.lines.line-index c.lines-test.false c.lines.invariant.first
