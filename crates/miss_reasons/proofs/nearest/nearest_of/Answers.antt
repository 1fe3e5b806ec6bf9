use Rattle.two_phase.proofs.Used.{ok_no_err, reads_none, reads_on}
use Rattle.miss_reasons.proofs.nearest.nearest_of.Goals as goal

pub digests-init : goal.digests-init
digests-init g c = record {
  held = λ S told. tt;
  reads = reads_none (g.R.KeepReader.held c.args.reader.now) (g.R.KeepReader.bound c.args.reader.now) (g.R.KeepReader.faults c.args.reader.now) ⊥ (λ e. e);
}

pub nearer-requires-clause-before : goal.nearer-requires-clause-before
nearer-requires-clause-before g c = λ κs live. c.digests.invariant.held

pub digests-preserved : goal.digests-preserved
digests-preserved g c = record {
  held = c.in_ok-best.ensures.held;
  reads = reads_on _ _ _ _ _ _ _ _ _ _ (ok_no_err _ _) c.digests.invariant.reads c.in_ok-best.ensures.reader;
}
