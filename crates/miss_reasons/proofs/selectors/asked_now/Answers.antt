use Rattle.std.proofs.Common.{◌∙◌, sym, true≢false}
use Rattle.std.proofs.lemmas.Slice.Eq.{bytes_eq-Decides}
use Rattle.miss_reasons.proofs.Answering.{answered_given, not_whole}
use Rattle.miss_reasons.proofs.Asked.{asked_digest}
use Rattle.miss_reasons.proofs.selectors.asked_now.Goals as goal

pub without_outputs-requires-clause-not_whole : goal.without_outputs-requires-clause-not_whole
without_outputs-requires-clause-not_whole g c = λ κs live.
    let d = c.args.desc.now in
    let s = c.args.selector.now in
    let see = g.V.View.answers c.args.view.now in
    let digest = asked_digest d see s.paths c.args.paths.now c.has_match-second.result c.args.weak.now c.in_ok-answers.answers.items c.as_slice-given.result.now c.in_ok-asked.asked.text.items c.in_ok-asked.asked.digest
    c.has_match-second.ensures c.requires.weak c.as_slice-given.ensures.value c.in_ok-answers.ensures.answers c.in_ok-asked.ensures.text c.in_ok-asked.ensures.digest in
    not_whole (g.R.KeepReader.held c.args.reader.now) d see s c.args.paths.now c.requires.unusable c.requires.paths
    (sym digest ∙ (bytes_eq-Decides c.in_ok-asked.asked.digest s.strong).0 (sym c.eq.ensures ∙ c.if-eq.true))

pub returns-then-eq-clause-fit : goal.returns-then-eq-clause-fit
returns-then-eq-clause-fit g c = c.without_outputs.ensures.fit (g.V.View.answers c.args.view.now)

pub returns-clause-fit : goal.returns-clause-fit
returns-clause-fit g c =
    let d = c.args.desc.now in
    let s = c.args.selector.now in
    let see = g.V.View.answers c.args.view.now in
    let digest = asked_digest d see s.paths c.args.paths.now c.has_match-second.result c.args.weak.now c.in_ok-answers.answers.items c.as_slice-given.result.now c.in_ok-asked.asked.text.items c.in_ok-asked.asked.digest
    c.has_match-second.ensures c.requires.weak c.as_slice-given.ensures.value c.in_ok-answers.ensures.answers c.in_ok-asked.ensures.text c.in_ok-asked.ensures.digest in
    answered_given (g.R.KeepReader.held c.args.reader.now) (g.R.KeepReader.held c.answered.new.reader) d see s c.args.paths.now c.asks.result.now c.in_ok-answers.answers.items c.as_slice-given.result.now c.answered.result
    c.answered.ensures.reader.held_is c.requires.paths
    (λ e. true≢false (sym ((bytes_eq-Decides c.in_ok-asked.asked.digest s.strong).1 (digest ∙ e)) ∙ sym c.eq.ensures ∙ c.if-eq.false))
    c.in_ok-answers.ensures.answers c.asks.ensures.asks c.as_slice-given.ensures.value c.answered.ensures.other
