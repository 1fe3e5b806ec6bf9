use Rattle.std.proofs.Common.{◌≡◌, take}
use Rattle.pip_view_inputs.proofs.sharing.share_pairs.Given as goal

abbrev pub invariant-pairs : goal.invariant-pairs
invariant-pairs l = l.shared.items ≡ take l.pair-index l.pairs
