use Rattle.std.proofs.Common.{◌≡◌, map, take}
use Rattle.run_record.proofs.holding.answers_hold.Given as goal

abbrev pub invariant-asks : goal.invariant-asks
invariant-asks g l = record {
  agree : take l.index l.stored ≡ map (g.V.View.answers l.fn.view) (take l.index l.asks);
  meaning : g.V.View.answers l.view ≡ g.V.View.answers l.fn.view;
}
