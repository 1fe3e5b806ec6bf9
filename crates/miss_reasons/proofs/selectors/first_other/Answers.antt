use Rattle.std.proofs.Common.{◌≡◌, true, length, refl, arith}
use Rattle.std.proofs.lemmas.Option.{slice_get_read}
use Rattle.miss_reasons.proofs.SameLines.{said_more}
use Rattle.miss_reasons.proofs.selectors.first_other.Goals as goal

pub places-init : goal.places-init
places-init c = λ i a l e. absurd (omega (arith, l))

pub places-preserved : goal.places-preserved
places-preserved c =
    let lines = c.args.lines.now in
    let given = c.args.answers.now in
    let line = c.index-lines-place.result in
    let answer = c.index-answers-place.result in
    said_more lines given c.places.place line answer
    (slice_get_read lines (length lines) c.places.place line refl c.places-test.true c.index-lines-place.is)
    (slice_get_read given (length given) c.places.place answer refl (omega arith) c.index-answers-place.is)
    (c.says.ensures.0 c.if-not-says.false) c.places.invariant

pub returns-then-not-says-clause-first : goal.returns-then-not-says-clause-first
returns-then-not-says-clause-first c =
    let lines = c.args.lines.now in
    let given = c.args.answers.now in
    let line = c.index-lines-place.result in
    let answer = c.index-answers-place.result in
    record {
      line = line;
      answer = answer;
      stored = slice_get_read lines (length lines) c.places.place line refl c.places-test.true c.index-lines-place.is;
      given_is = slice_get_read given (length given) c.places.place answer refl (omega arith) c.index-answers-place.is;
      differs = λ e. let yes : c.says.result ≡ true = c.says.ensures.1 e in cc;
      before = c.places.invariant;
    }
