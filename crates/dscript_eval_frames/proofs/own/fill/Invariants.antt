use Rattle.std.proofs.Common.{◌≡◌, ◌+◌, ◌≤◌, ℕ, length}
use Rattle.dscript_eval_frames.specs.Own.{own_values}
use Rattle.dscript_eval_frames.proofs.own.fill.Given as goal

abbrev pub invariant-places : goal.invariant-places
invariant-places l =
    (length l.own.items ≡ length l.fn.own.items + l.counter)
    × ((count : ℕ) → length l.fn.own.items + l.missing ≤ count
    → own_values l.own.items l.far count ≡ own_values l.fn.own.items l.far count)
