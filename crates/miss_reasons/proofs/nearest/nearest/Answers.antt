use Rattle.miss_reasons.proofs.nearest.nearest.Goals as goal

pub returns-in-Some-clause-near : goal.returns-in-Some-clause-near
returns-in-Some-clause-near g c = c.nearest_in.ensures.near c.args.desc.now c.in_ok-own.ensures.read
