-- Patterns that are read.
use Rattle.std.proofs.Common.{◌≡◌, ℕ, false, cond, List, Some, None, inl, inr, ap, sym, ◌∙◌}
use Rattle.std.proofs.lemmas.Bool.{cases_Bool}
use Rattle.bx_path.specs.Globbing.{IsPattern, is_pattern}
use Rattle.bx_path.proofs.Patterns.{pattern_is, pattern_passes}
use Rattle.prints.specs.Parts.{part_at}
use Rattle.prints.specs.Reading.{Taken, ◌>>=◌}
use Rattle.graph_texts.specs.Asks.{pattern_at}

no_pattern : (text : List ℕ) → (IsPattern text → ⊥) → is_pattern text ≡ false
no_pattern text n = elim (cases_Bool (is_pattern text)) [ inl e ↦ absurd (n (pattern_is text e)) | inr e ↦ e ]

pub pattern_taken : (text part rest pattern : List ℕ) → part_at 32 text ≡ Some (part, rest) → IsPattern part → pattern ≡ part
    → pattern_at text ≡ Some (pattern, rest)
pattern_taken text part rest pattern e is same =
    ap (λ (o : Taken (List ℕ)). o >>= λ x. cond (is_pattern x.0) (Some x) None) e
    ∙ ap (λ b. cond b (Some (part, rest)) None) (pattern_passes part is) ∙ ap (λ (p : List ℕ). Some (p, rest)) (sym same)

pub pattern_refused : (text part rest : List ℕ) → part_at 32 text ≡ Some (part, rest) → (IsPattern part → ⊥) → pattern_at text ≡ None
pattern_refused text part rest e none =
    ap (λ (o : Taken (List ℕ)). o >>= λ x. cond (is_pattern x.0) (Some x) None) e
    ∙ ap (λ b. cond b (Some (part, rest)) None) (no_pattern part none)
