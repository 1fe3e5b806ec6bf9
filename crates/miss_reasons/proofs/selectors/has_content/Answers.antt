use Rattle.std.proofs.Common.{◌≡◌, false, true, ap, sym, ◌∙◌}
use Rattle.prints.specs.declared.strong_parts.AnswerLine.TheVariants as answer_lines
use Rattle.miss_reasons.proofs.SameLines.{same_content}
use Rattle.miss_reasons.proofs.selectors.has_content.Goals as goal

pub returns-in-Content : goal.returns-in-Content
returns-in-Content c = (
  λ e. c.in-Content.is ∙ ap answer_lines.Content (c.is_same_digest.ensures.0 e),
  λ e. c.is_same_digest.ensures.1 (same_content c.in-Content.own c.args.digest.now (sym c.in-Content.is ∙ e)),
)

pub returns-in_default : goal.returns-in_default
returns-in_default c = (λ (yes : false ≡ true). absurd cc, λ e. absurd (c.in_default.not-Content c.args.digest.now e))
