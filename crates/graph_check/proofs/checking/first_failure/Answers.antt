use Rattle.std.proofs.Common.{IfOk, sym, subst}
use Rattle.graph_check_outputs.specs.Firsts.{IsFirst}
use Rattle.graph_check.specs.Rules.{FailsAt}
use Rattle.graph_check.specs.declared.fault.GraphKind.{GraphKind}
use Rattle.graph_check.proofs.checking.first_failure.Goals as goal

pub returns-in-DoubleProducer : goal.returns-in-DoubleProducer
returns-in-DoubleProducer c =
    subst (λ (rule : GraphKind). IfOk c.first_double_producer.result (IsFirst (FailsAt rule c.args.pips.now c.args.sources.now))) (sym c.in-DoubleProducer.is) c.first_double_producer.ensures

pub returns-in-Overlap : goal.returns-in-Overlap
returns-in-Overlap c =
    subst (λ (rule : GraphKind). IfOk c.first_overlap.result (IsFirst (FailsAt rule c.args.pips.now c.args.sources.now))) (sym c.in-Overlap.is) c.first_overlap.ensures

pub returns-in-NoSuchSource : goal.returns-in-NoSuchSource
returns-in-NoSuchSource c =
    subst (λ (rule : GraphKind). IfOk c.no_such_source.result (IsFirst (FailsAt rule c.args.pips.now c.args.sources.now))) (sym c.in-NoSuchSource.is) c.no_such_source.ensures

pub returns-in-OutsideOut : goal.returns-in-OutsideOut
returns-in-OutsideOut c =
    subst (λ (rule : GraphKind). IfOk c.first_outside.result (IsFirst (FailsAt rule c.args.pips.now c.args.sources.now))) (sym c.in-OutsideOut.is) c.first_outside.ensures

pub returns-in-Twin : goal.returns-in-Twin
returns-in-Twin c =
    subst (λ (rule : GraphKind). IfOk c.twin.result (IsFirst (FailsAt rule c.args.pips.now c.args.sources.now))) (sym c.in-Twin.is) c.twin.ensures

pub returns-in-Limit : goal.returns-in-Limit
returns-in-Limit c =
    subst (λ (rule : GraphKind). IsFirst (FailsAt rule c.args.pips.now c.args.sources.now) c.limit.result) (sym c.in-Limit.is) c.limit.ensures
