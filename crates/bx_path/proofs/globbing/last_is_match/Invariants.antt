use Rattle.std.proofs.Common.{◌≡◌, ◌==◌, length}
use Rattle.std.specs.List.{slice_split}
use Rattle.bx_path.specs.Globbing.{last_is_match}
use Rattle.bx_path.proofs.globbing.last_is_match.Given as goal

abbrev pub invariant-parts : goal.invariant-parts
invariant-parts l = last_is_match l.pattern l.deep (slice_split (λ b. b == 47) l.rest) ≡ last_is_match l.pattern l.deep (slice_split (λ b. b == 47) l.text)

abbrev pub decreases-parts : goal.decreases-parts
decreases-parts l = length l.rest
