use Rattle.two_phase.proofs.Used.{ok_no_err, reads_none, reads_on}
use Rattle.miss_reasons.proofs.nearest.descriptions.Goals as goal

pub names-init : goal.names-init
names-init g c = reads_none (g.R.KeepReader.held c.args.reader.now) (g.R.KeepReader.bound c.args.reader.now) (g.R.KeepReader.faults c.args.reader.now) ⊥ (λ e. e)

pub names-preserved : goal.names-preserved
names-preserved g c = reads_on _ _ _ _ _ _ _ _ _ _ (ok_no_err _ _) c.names.invariant c.in_ok-add_name.ensures
