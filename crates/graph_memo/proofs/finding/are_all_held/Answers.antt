use Rattle.graph_memo.specs.Finding.{HoldsModule}
use Rattle.graph_memo.proofs.Usable.{module_decided}
use Rattle.graph_memo.proofs.Decided.{none_yet, not_all, of_all, one_more}
use Rattle.two_phase.proofs.Used.{ok_no_err, reads_none, reads_on}
use Rattle.graph_memo.proofs.finding.are_all_held.Goals as goal

pub modules-init : goal.modules-init
modules-init g c = record {
  first = none_yet (HoldsModule c.args.tree.now) (g.R.KeepReader.held c.args.reader.now) c.args.modules.now;
  reads = reads_none (g.R.KeepReader.held c.args.reader.now) (g.R.KeepReader.bound c.args.reader.now) (g.R.KeepReader.faults c.args.reader.now) ⊥ (λ e. e);
}

pub modules-preserved : goal.modules-preserved
modules-preserved g c = record {
  first =
      one_more (HoldsModule c.args.tree.now) (g.R.KeepReader.held c.modules.reader) (g.R.KeepReader.held c.are_held.new.reader) c.args.modules.now c.modules.module-index
      c.module-item.result c.modules-test.true c.module-item.is c.in_ok-held.ensures.reader.held_is c.modules.invariant.first
      (module_decided (g.R.KeepReader.held c.are_held.new.reader) c.args.tree.now c.module-item.result c.as_slice.result.now c.in_ok-held.held c.as_slice.ensures.value c.in_ok-held.ensures.held c.if-not-held.false);
  reads = reads_on _ _ _ _ _ _ _ _ _ _ (ok_no_err _ _) c.modules.invariant.reads c.in_ok-held.ensures.reader;
}

pub returns-then-not-held-clause-held : goal.returns-then-not-held-clause-held
returns-then-not-held-clause-held g c =
    not_all (HoldsModule c.args.tree.now) (g.R.KeepReader.held c.are_held.new.reader) c.args.modules.now c.modules.module-index c.module-item.result c.modules-test.true c.module-item.is
    (module_decided (g.R.KeepReader.held c.are_held.new.reader) c.args.tree.now c.module-item.result c.as_slice.result.now c.in_ok-held.held c.as_slice.ensures.value c.in_ok-held.ensures.held c.if-not-held.true)

pub returns-clause-held : goal.returns-clause-held
returns-clause-held g c =
    of_all (HoldsModule c.args.tree.now) (g.R.KeepReader.held c.modules.reader) c.args.modules.now c.modules.module-index c.modules-test.false c.modules.invariant.first
