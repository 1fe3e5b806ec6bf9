use Rattle.std.proofs.Common.{◌∙◌, sym, true≢false}
use Rattle.std.proofs.lemmas.Slice.Eq.{bytes_eq-Decides}
use Rattle.two_phase.proofs.Tried.{asked_given, asked_number, not_asked, of_now, one_digest}
use Rattle.two_phase.proofs.lookups.asked_now.Goals as goal

pub returns-then-eq-clause-found : goal.returns-then-eq-clause-found
returns-then-eq-clause-found g c =
    let d = c.args.desc.now in
    let s = c.args.selector.now in
    let digest = one_digest c.args.paths d c.args.weak.now s.paths c.in_ok-asked.asked.answers.items c.in_ok-asked.asked.digest c.requires.paths c.requires.weak c.in_ok-asked.ensures.digest in
    asked_given (g.R.KeepReader.held c.found_by.new.reader) d (g.V.View.answers c.args.view.now) s c.args.paths.asks c.in_ok-asked.asked.answers.items c.found_by.result c.in_ok-asked.ensures.answers
    (sym digest ∙ (bytes_eq-Decides c.in_ok-asked.asked.digest s.strong).0 (sym c.eq.ensures ∙ c.if-eq.true)) c.found_by.ensures.found

pub returns-else-eq-clause-found : goal.returns-else-eq-clause-found
returns-else-eq-clause-found g c =
    let d = c.args.desc.now in
    let s = c.args.selector.now in
    let digest = one_digest c.args.paths d c.args.weak.now s.paths c.in_ok-asked.asked.answers.items c.in_ok-asked.asked.digest c.requires.paths c.requires.weak c.in_ok-asked.ensures.digest in
    not_asked (g.R.KeepReader.held c.args.reader.now) d (g.V.View.answers c.args.view.now) s c.args.paths.asks c.in_ok-asked.asked.answers.items c.in_ok-asked.ensures.answers
    (λ e. true≢false (sym ((bytes_eq-Decides c.in_ok-asked.asked.digest s.strong).1 (digest ∙ e)) ∙ sym c.eq.ensures ∙ c.if-eq.false))

pub returns-then-eq-clause-now : goal.returns-then-eq-clause-now
returns-then-eq-clause-now g c =
    of_now c.args.desc.now (g.V.View.answers c.args.view.now) c.args.paths.asks c.in_ok-asked.asked.answers.items c.found_by.result c.in_ok-asked.ensures.answers
    c.found_by.ensures.of

pub found_by-requires-clause-strong : goal.found_by-requires-clause-strong
found_by-requires-clause-strong g c = λ κs live.
    let s = c.args.selector.now in
    sym (one_digest c.args.paths c.args.desc.now c.args.weak.now s.paths c.in_ok-asked.asked.answers.items c.in_ok-asked.asked.digest c.requires.paths c.requires.weak c.in_ok-asked.ensures.digest)
    ∙ (bytes_eq-Decides c.in_ok-asked.asked.digest s.strong).0 (sym c.eq.ensures ∙ c.if-eq.true)

pub found_by-requires-clause-one_each : goal.found_by-requires-clause-one_each
found_by-requires-clause-one_each g c = λ κs live. asked_number c.args.paths.asks c.in_ok-asked.asked.answers.items (g.V.View.answers c.args.view.now) c.in_ok-asked.ensures.answers
