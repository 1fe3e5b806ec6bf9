use Rattle.miss_reasons.proofs.Answering.{near_given}
use Rattle.miss_reasons.proofs.nearest.nearest_in.Goals as goal

pub returns-in_ok-near-in-Some-clause-near : goal.returns-in_ok-near-in-Some-clause-near
returns-in_ok-near-in-Some-clause-near g c = λ d read.
    near_given (g.R.KeepReader.held c.nearest_of.new.reader) d c.in-Some.best c.in_ok-best.field-0 c.bytes.result.now c.args.own.now.text.items c.in_ok-near-in-Some.near c.in_ok-best.ensures.held c.in-Some.is
    c.bytes.ensures read c.in_ok-near-in-Some.ensures
