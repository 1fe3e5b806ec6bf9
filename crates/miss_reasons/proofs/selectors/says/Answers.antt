use Rattle.std.proofs.Common.{sym, ◌∙◌}
use Rattle.miss_reasons.proofs.selectors.says.Goals as goal

pub returns : goal.returns
returns c = (
  λ e. c.is_same_line.ensures.0 e ∙ c.said-own.ensures,
  λ e. c.is_same_line.ensures.1 (e ∙ sym c.said-own.ensures),
)
