use Rattle.miss_reasons.proofs.Answering.{line_shared}
use Rattle.miss_reasons.proofs.selectors.shared.Goals as goal

pub returns : goal.returns
returns c = line_shared c.args.output.now c.in_ok-path.path c.in_ok-path.ensures
