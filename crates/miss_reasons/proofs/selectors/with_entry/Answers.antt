use Rattle.miss_reasons.proofs.Answering.{no_output, not_for, other_entry}
use Rattle.two_phase.proofs.Used.{ok_no_err, reads_none}
use Rattle.miss_reasons.proofs.selectors.with_entry.Goals as goal

pub returns-then-not-is_for-clause-fit : goal.returns-then-not-is_for-clause-fit
returns-then-not-is_for-clause-fit g c = λ see.
    not_for c.args.desc.now see c.args.selector.now c.args.entry.now (g.R.KeepReader.held c.args.reader.now) c.args.weak.now c.is_for.result c.requires.held c.requires.weak
    c.is_for.ensures c.if-not-is_for.true

pub returns-then-not-is_for-clause-reader : goal.returns-then-not-is_for-clause-reader
returns-then-not-is_for-clause-reader g c =
    reads_none (g.R.KeepReader.held c.args.reader.now) (g.R.KeepReader.bound c.args.reader.now) (g.R.KeepReader.faults c.args.reader.now) _ (ok_no_err _ _)

pub returns-in-Some-clause-fit : goal.returns-in-Some-clause-fit
returns-in-Some-clause-fit g c = λ see.
    no_output c.args.desc.now see c.args.selector.now c.args.entry.now (g.R.KeepReader.held c.args.reader.now) (g.R.KeepReader.held c.missing_output.new.reader) c.lines.result.now c.in_ok-output.field-0 c.in-Some.output
    c.in_ok-output.ensures.reader.held_is c.requires.held c.lines.ensures c.in_ok-output.ensures.missing c.in-Some.is

pub returns-in-None-clause-fit : goal.returns-in-None-clause-fit
returns-in-None-clause-fit g c = λ see.
    other_entry c.args.desc.now see c.args.selector.now c.args.entry.now (g.R.KeepReader.held c.args.reader.now) (g.R.KeepReader.held c.missing_output.new.reader) c.lines.result.now c.in_ok-output.field-0
    c.in_ok-output.ensures.reader.held_is c.requires.held c.requires.not_whole c.lines.ensures c.in_ok-output.ensures.missing c.in-None.is
