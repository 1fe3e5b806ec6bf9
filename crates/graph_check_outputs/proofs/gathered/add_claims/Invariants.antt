use Rattle.std.proofs.Common.{◌≡◌, ◌++◌, map, take}
use Rattle.graph_check_outputs.specs.Claims.{claim_of}
use Rattle.graph_check_outputs.proofs.gathered.add_claims.Given as goal

abbrev pub invariant-paths : goal.invariant-paths
invariant-paths l = l.claims.items ≡ l.initial.claims.items ++ map (claim_of l.role l.pip) (take l.path-index l.paths)
