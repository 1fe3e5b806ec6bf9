use Rattle.std.proofs.Common.{◌≡◌, take}
use Rattle.graph_check_outputs.specs.Claims.{paths_among}
use Rattle.graph_check_outputs.proofs.gathered.wanted_paths.Given as goal

abbrev pub invariant-claims : goal.invariant-claims
invariant-claims l = l.paths.items ≡ paths_among l.wanted l.count (take l.claim-index l.claims)
