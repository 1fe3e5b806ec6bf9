use Rattle.two_phase.proofs.Tried.{written_digest}
use Rattle.two_phase.proofs.lookups.ask_all.Goals as goal

pub returns-clause-digest : goal.returns-clause-digest
returns-clause-digest g c =
    written_digest c.args.paths.now.asks c.asks-asks.result.now c.has_match-second.result c.args.weak.now c.args.paths.now.digest c.digest-named.result
    c.in_ok-printed.printed.text.items c.in_ok-printed.printed.digest c.in_ok-answers.answers.items c.as_slice.result.now c.asks-asks.ensures.asks
    c.has_match-second.ensures c.digest-named.ensures.digest c.as_slice.ensures.value c.in_ok-printed.ensures.text c.in_ok-printed.ensures.digest
