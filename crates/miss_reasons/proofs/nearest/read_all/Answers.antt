use Rattle.two_phase.proofs.Used.{ok_no_err, reads_none}
use Rattle.miss_reasons.proofs.nearest.read_all.Goals as goal

pub returns-then-is_some : goal.returns-then-is_some
returns-then-is_some g c =
    reads_none (g.R.KeepReader.held c.args.reader.now) (g.R.KeepReader.bound c.args.reader.now) (g.R.KeepReader.faults c.args.reader.now) _ (ok_no_err _ _)
