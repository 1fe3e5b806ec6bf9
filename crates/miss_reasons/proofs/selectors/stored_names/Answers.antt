use Rattle.two_phase.proofs.Used.{ok_no_err, reads_none}
use Rattle.miss_reasons.proofs.Answering.{names_given}
use Rattle.miss_reasons.proofs.selectors.stored_names.Goals as goal

pub returns-in-Names-clause-names : goal.returns-in-Names-clause-names
returns-in-Names-clause-names g c =
    names_given (g.R.KeepReader.held c.content.new.reader) c.args.line.now c.in-Names.digest c.content.result c.in-Names.is c.content.ensures.found

pub returns-in_default-clause-reader : goal.returns-in_default-clause-reader
returns-in_default-clause-reader g c =
    reads_none (g.R.KeepReader.held c.args.reader.now) (g.R.KeepReader.bound c.args.reader.now) (g.R.KeepReader.faults c.args.reader.now) _ (ok_no_err _ _)
