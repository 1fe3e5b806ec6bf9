use Rattle.std.proofs.Common.{◌≤◌, ℕ, List, length}
use Rattle.bx_path.specs.Rows.{IsRow}
use Rattle.bx_path.proofs.RowsMatch.{IsHalf}
use Rattle.bx_path.proofs.matching.add_byte.Given as goal

abbrev pub invariant-suffixes : goal.invariant-suffixes
invariant-suffixes l =
    (l.at ≤ length l.pattern) × ((name : List ℕ) → IsRow l.pattern name l.fn.row → IsHalf l.at l.pattern l.byte name l.after l.row)

abbrev pub decreases-suffixes : goal.decreases-suffixes
decreases-suffixes l = l.at
