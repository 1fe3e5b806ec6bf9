use Rattle.miss_reasons.proofs.Answering.{no_list}
use Rattle.miss_reasons.proofs.reason.no_list.Goals as goal

pub returns-clause-reason : goal.returns-clause-reason
returns-clause-reason g c = λ see.
    no_list (g.R.KeepReader.held c.args.reader.now) (g.R.KeepReader.held c.nearest.new.reader) c.args.desc.now see c.in_ok-near.near c.in_ok-near.ensures.reader.held_is c.requires.absent c.in_ok-near.ensures.near
