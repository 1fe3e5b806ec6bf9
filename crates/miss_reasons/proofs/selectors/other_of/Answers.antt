use Rattle.std.proofs.Common.{length, refl, arith}
use Rattle.std.proofs.lemmas.Option.{slice_get_read}
use Rattle.two_phase.proofs.Used.{ok_no_err, reads_none}
use Rattle.miss_reasons.proofs.Answering.{asked_other}
use Rattle.miss_reasons.proofs.selectors.other_of.Goals as goal

pub bounds-asks-place : goal.bounds-asks-place
bounds-asks-place g c = omega (arith, c.in-Some.ensures.within.1.0)

pub bounds-lines-place : goal.bounds-lines-place
bounds-lines-place g c = omega (arith, c.in-Some.ensures.within.0)

pub bounds-answers-place : goal.bounds-answers-place
bounds-answers-place g c = omega (arith, c.in-Some.ensures.within.1.1)

pub returns-in-Some-clause-told : goal.returns-in-Some-clause-told
returns-in-Some-clause-told g c =
    let lines = c.args.lines.now in
    let asks = c.args.asks.now in
    let given = c.args.answers.now in
    let place = c.in-Some.place in
    let ask = c.index-asks-place.result in
    let line = c.index-lines-place.result in
    let answer = c.index-answers-place.result in
    let within = c.in-Some.ensures.within in
    asked_other (g.R.KeepReader.held c.other_at.new.reader) lines asks given place ask line answer c.other_at.result c.in-Some.ensures.first
    (slice_get_read asks (length asks) place ask refl within.1.0 c.index-asks-place.is)
    (slice_get_read lines (length lines) place line refl within.0 c.index-lines-place.is)
    (slice_get_read given (length given) place answer refl within.1.1 c.index-answers-place.is)
    c.other_at.ensures.told

pub returns-in-None-clause-reader : goal.returns-in-None-clause-reader
returns-in-None-clause-reader g c =
    reads_none (g.R.KeepReader.held c.args.reader.now) (g.R.KeepReader.bound c.args.reader.now) (g.R.KeepReader.faults c.args.reader.now) _ (ok_no_err _ _)
