use Rattle.miss_reasons.proofs.selectors.entry.Goals as goal

pub returns-in-Found-clause-found : goal.returns-in-Found-clause-found
returns-in-Found-clause-found g c = c.in-Found.ensures.fetched

pub returns-in-NotWell-clause-found : goal.returns-in-NotWell-clause-found
returns-in-NotWell-clause-found g c = c.in-NotWell.ensures.fetched
