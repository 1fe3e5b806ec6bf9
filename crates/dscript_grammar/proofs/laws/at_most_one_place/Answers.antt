use Rattle.dscript_grammar.proofs.Places.{one_place, at_a_token}
use Rattle.dscript_grammar.proofs.laws.at_most_one_place.Goals as goal

pub returns-clause-one : goal.returns-clause-one
returns-clause-one c form tokens at other p q = one_place form tokens at other p.place q.place

pub returns-clause-at_a_token : goal.returns-clause-at_a_token
returns-clause-at_a_token c = at_a_token
