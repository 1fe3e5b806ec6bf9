use Rattle.std.proofs.Common.{◌≡◌, map, take}
use Rattle.run_record.specs.Digests.{digest_asked, digest_of_line}
use Rattle.run_record.proofs.matching.first_difference.Given as goal

abbrev pub invariant-asks : goal.invariant-asks
invariant-asks g l = record {
  agree : map digest_of_line (take l.index l.stored) ≡ map (digest_asked (g.V.View.answers l.fn.view)) (take l.index l.asks);
  meaning : g.V.View.answers l.view ≡ g.V.View.answers l.fn.view;
}
