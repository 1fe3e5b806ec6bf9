use Rattle.std.proofs.Common.{sym, ◌∙◌}
use Rattle.std.proofs.lemmas.Bool.{false_from_ne_true, false≢true, not-true, not_from_false}
use Rattle.bundle_folder.proofs.places.is_apart.Goals as goal

pub returns-then-is_within : goal.returns-then-is_within
returns-then-is_within c = (
  λ e. absurd (false≢true e),
  λ h. absurd (h.0 (c.is_within.ensures.0 c.if-is_within.true)),
)

pub returns : goal.returns
returns c = (
  λ t. (
    λ w. false≢true (sym c.if-is_within.false ∙ c.is_within.ensures.1 w),
    λ w. false≢true (sym (not-true c.is_within-2.result t) ∙ c.is_within-2.ensures.1 w),
  ),
  λ h. not_from_false c.is_within-2.result (false_from_ne_true c.is_within-2.result (λ t. h.1 (c.is_within-2.ensures.0 t))),
)
