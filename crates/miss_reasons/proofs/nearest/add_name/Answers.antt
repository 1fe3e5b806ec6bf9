use Rattle.two_phase.proofs.Used.{ok_no_err, reads_none}
use Rattle.miss_reasons.proofs.nearest.add_name.Goals as goal

pub returns-in-None : goal.returns-in-None
returns-in-None g c =
    reads_none (g.R.KeepReader.held c.args.reader.now) (g.R.KeepReader.bound c.args.reader.now) (g.R.KeepReader.faults c.args.reader.now) _ (ok_no_err _ _)
