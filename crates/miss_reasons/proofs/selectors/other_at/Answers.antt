use Rattle.miss_reasons.proofs.Answering.{answered_as}
use Rattle.miss_reasons.proofs.selectors.other_at.Goals as goal

pub returns-clause-told : goal.returns-clause-told
returns-clause-told g c =
    answered_as (g.R.KeepReader.held c.stored_names.new.reader) c.args.ask.now c.in_ok-ask.ask c.args.line.now c.args.answer.now c.in_ok-answer.answer c.in_ok-names.names
    c.in_ok-ask.ensures c.in_ok-answer.ensures c.in_ok-names.ensures.names
