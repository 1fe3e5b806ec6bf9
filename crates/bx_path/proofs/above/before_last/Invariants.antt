use Rattle.std.proofs.Common.{◌≡◌, ◌++◌, List, ℕ, length}
use Rattle.bx_path.specs.Joining.{HasNoSlash}
use Rattle.bx_path.proofs.above.before_last.Given as goal

abbrev pub invariant-back : goal.invariant-back
invariant-back l = (after : List ℕ) × HasNoSlash after × (l.text ≡ l.left ++ after)

abbrev pub decreases-back : goal.decreases-back
decreases-back l = length l.left
