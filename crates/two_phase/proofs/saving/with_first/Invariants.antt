use Rattle.std.proofs.Common.{◌≡◌, ◌∷◌, take}
use Rattle.std.specs.Prelude.{filter, not}
use Rattle.two_phase_meaning.specs.Saving.{same_selector}
use Rattle.two_phase.proofs.saving.with_first.Given as goal

abbrev pub invariant-old : goal.invariant-old
invariant-old l = l.list.items ≡ l.first ∷ filter (λ other. not (same_selector l.first other)) (take l.selector-index l.old)
