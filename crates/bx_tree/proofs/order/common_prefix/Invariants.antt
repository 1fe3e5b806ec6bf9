use Rattle.std.proofs.Common.{◌≡◌, ◌≤◌, ◌-◌, length, take}
use Rattle.bx_tree.proofs.order.common_prefix.Given as goal

abbrev pub invariant-loop-shared : goal.invariant-loop-shared
invariant-loop-shared l = (l.shared ≤ length l.a) × (l.shared ≤ length l.b) × (take l.shared l.a ≡ take l.shared l.b)

abbrev pub decreases-loop-shared : goal.decreases-loop-shared
decreases-loop-shared l = length l.a - l.shared
