use Rattle.std.proofs.Common.{◌≡◌, drop}
use Rattle.observed.specs.Texts.{after_asks, all_asks as all_named}
use Rattle.observed.proofs.texts.all_asks.Given as goal
use Rattle.bx_tree.specs.Lent.{texts_now}

abbrev pub invariant-lines : goal.invariant-lines
invariant-lines l = after_asks l.asks.items (all_named (texts_now (drop l.line-index l.lines))) ≡ all_named (texts_now l.lines)
