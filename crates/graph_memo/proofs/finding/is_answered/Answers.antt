use Rattle.run_record.proofs.Differ.{is_other, is_same}
use Rattle.graph_memo.proofs.Usable.{answer_decided, answer_differs}
use Rattle.graph_memo.proofs.finding.is_answered.Goals as goal

pub returns-then-ne-clause-answered : goal.returns-then-ne-clause-answered
returns-then-ne-clause-answered g c =
    answer_differs (g.R.KeepReader.held c.args.reader.now) c.args.tree.now c.args.line.now c.in_ok-now.now c.in_ok-now.ensures
    (is_other c.in_ok-now.now c.args.line.now.listing c.ne.result c.ne.ensures c.if-ne.true)

pub returns-clause-answered : goal.returns-clause-answered
returns-clause-answered g c =
    answer_decided (g.R.KeepReader.held c.is_held.new.reader) c.args.tree.now c.args.line.now c.in_ok-now.now c.is_held.result c.in_ok-now.ensures
    (is_same c.in_ok-now.now c.args.line.now.listing c.ne.result c.ne.ensures c.if-ne.false) c.is_held.ensures.held
