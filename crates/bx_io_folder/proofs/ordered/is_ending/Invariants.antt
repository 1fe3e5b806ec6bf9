use Rattle.std.proofs.Common.{◌≡◌, ◌<◌, ℕ}
use Rattle.bx_io_folder.specs.NamedFiles.{place_ending}
use Rattle.bx_io_folder.proofs.ordered.is_ending.Given as goal

abbrev pub invariant-endings : goal.invariant-endings
invariant-endings l = (k : ℕ) → k < l.place-counter → l.text ≡ place_ending k → ⊥
