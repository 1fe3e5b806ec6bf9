use Rattle.std.proofs.Common.{◌≡◌, false, true, ap, sym, ◌∙◌}
use Rattle.prints.specs.declared.strong_parts.AnswerLine.TheVariants as answer_lines
use Rattle.miss_reasons.proofs.SameLines.{same_names}
use Rattle.miss_reasons.proofs.selectors.has_names.Goals as goal

pub returns-in-Names : goal.returns-in-Names
returns-in-Names c = (
  λ e. c.in-Names.is ∙ ap answer_lines.Names (c.is_same_digest.ensures.0 e),
  λ e. c.is_same_digest.ensures.1 (same_names c.in-Names.own c.args.digest.now (sym c.in-Names.is ∙ e)),
)

pub returns-in_default : goal.returns-in_default
returns-in_default c = (λ (yes : false ≡ true). absurd cc, λ e. absurd (c.in_default.not-Names c.args.digest.now e))
