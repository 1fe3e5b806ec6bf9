use Rattle.std.proofs.Common.{ap, inl, inr, not}
use Rattle.std.proofs.lemmas.Bool.{cases_Bool}
use Rattle.graph_check_outputs.proofs.unlisted.is_left_out.Goals as goal

pub returns-then-not-is_below : goal.returns-then-not-is_below
returns-then-not-is_below c = (λ t. cc, λ h. let t = c.is_below.ensures.below.1 h.0 in let f = c.if-not-is_below.true in cc)

pub returns : goal.returns
returns c = (
  λ t. (
    c.is_below.ensures.below.0 c.if-not-is_below.false,
    λ member. let m = c.has_path.ensures.1 member in cc,
  ),
  λ h. elim (cases_Bool c.has_path.result) [
    | inl has ↦ absurd (h.1 (c.has_path.ensures.0 has))
    | inr lacks ↦ ap not lacks
  ],
)
