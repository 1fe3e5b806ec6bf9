-- Outputs that have a path.
use Rattle.std.proofs.Common.{◌≡◌, ◌≢◌, ℕ, ◌<◌, List, [], length, Result, Ok, Err, refl, ◌∙◌, arith}
use Rattle.std.specs.Prelude.{◌↔◌, IsTrue, MatchResult, is_ok}
use Rattle.std.specs.List.{All, Contains, HoldsAt}
use Rattle.std.proofs.lemmas.Bool.{false≢true}
use Rattle.std.proofs.lemmas.List.{length-map, get_or-map}
use Rattle.std.proofs.lemmas.List.Elements.{All-contains, All-map}
use Rattle.bx_tree.specs.Paths.{Atoms, has_path}
use Rattle.memo_format.specs.Entries.{output_paths}
use Rattle.memo_format.specs.declared.entry.OutputLine.{OutputLine}
use Rattle.bx_tree.proofs.FoundByTest.{has_path_from_answer}

contains : (outputs : List OutputLine) (p : Atoms) (r : Result ℕ ℕ)
    → MatchResult r (λ i. (i < length outputs) × HoldsAt (λ (o : OutputLine). o.path ≡ p) outputs i) (λ i. All (λ (o : OutputLine). o.path ≢ p) outputs)
    → IsTrue (is_ok r) ↔ Contains (output_paths outputs) p
contains outputs p (Ok i) h =
    let some : OutputLine = record { path = p; digest = [] } in (
      λ e. (
        i,
        omega (arith, h.0, length-map outputs (λ (o : OutputLine). o.path)),
        get_or-map (λ (o : OutputLine). o.path) outputs i some p h.0 ∙ h.1 some,
      ),
      λ k. refl,
    )
contains outputs p (Err i) h = (
  λ e. absurd (false≢true e),
  λ k. absurd (All-contains (λ q. q ≢ p) (output_paths outputs) p (All-map (λ q. q ≢ p) (λ (o : OutputLine). o.path) outputs h) k refl),
)

pub output_found : (outputs : List OutputLine) (p : Atoms) (r : Result ℕ ℕ)
    → MatchResult r (λ i. (i < length outputs) × HoldsAt (λ (o : OutputLine). o.path ≡ p) outputs i) (λ i. All (λ (o : OutputLine). o.path ≢ p) outputs)
    → is_ok r ≡ has_path (output_paths outputs) p
output_found outputs p r h = has_path_from_answer (output_paths outputs) p (is_ok r) (contains outputs p r h)
