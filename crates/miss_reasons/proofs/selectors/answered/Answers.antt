use Rattle.miss_reasons.proofs.Answering.{other_given}
use Rattle.miss_reasons.proofs.selectors.answered.Goals as goal

pub returns-in-Some-clause-other : goal.returns-in-Some-clause-other
returns-in-Some-clause-other g c =
    other_given (g.R.KeepReader.held c.stored_parts.new.reader) (g.R.KeepReader.held c.other_of.new.reader) c.args.selector.now c.args.asks.now c.args.answers.now c.in_ok-stored.field-0 c.in-Some.stored c.lines.result.now
    c.other_of.result c.other_of.ensures.reader.held_is c.in_ok-stored.ensures.found c.in-Some.is c.lines.ensures c.other_of.ensures.told
