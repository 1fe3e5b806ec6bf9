use Rattle.std.proofs.Common.{◌≡◌, ℕ, ◌<◌, Some}
use Rattle.std.specs.Prelude.{slice_get}
use Rattle.observed.specs.declared.access.Answer.{Answer}
use Rattle.prints.specs.Strong.{line_of}
use Rattle.miss_reasons.proofs.selectors.first_other.Given as goal

abbrev pub invariant-places : goal.invariant-places
invariant-places l = (i : ℕ) (a : Answer) → i < l.place → slice_get l.answers i ≡ Some a → slice_get l.lines i ≡ Some (line_of a)
