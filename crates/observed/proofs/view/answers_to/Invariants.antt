use Rattle.std.proofs.Common.{◌≡◌, map, take}
use Rattle.observed.proofs.view.answers_to.Given as goal

abbrev pub invariant-asks : goal.invariant-asks
invariant-asks g l = record {
  answers : l.answers.items ≡ map (g.V.View.answers l.fn.view) (take l.ask-index l.asks);
  same : g.V.View.answers l.view ≡ g.V.View.answers l.fn.view;
}
