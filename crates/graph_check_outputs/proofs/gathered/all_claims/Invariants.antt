use Rattle.graph_check_outputs.proofs.Claiming.{AreFirstClaims}
use Rattle.graph_check_outputs.proofs.gathered.all_claims.Given as goal

abbrev pub invariant-pips : goal.invariant-pips
invariant-pips l = AreFirstClaims l.pips l.number l.claims.items
