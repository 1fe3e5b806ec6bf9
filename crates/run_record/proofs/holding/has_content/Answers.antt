use Rattle.std.proofs.Common.{◌≡◌, false, true, ap, sym, ◌∙◌}
use Rattle.observed.specs.declared.access.Answer.TheVariants as answers
use Rattle.run_record.proofs.SameAnswers.{same_bytes}
use Rattle.run_record.proofs.holding.has_content.Goals as goal

pub returns-in-Content : goal.returns-in-Content
returns-in-Content c = (
  λ e. c.in-Content.is ∙ ap answers.Content (c.is_same_content.ensures.0 e),
  λ e. c.is_same_content.ensures.1 (same_bytes c.in-Content.own c.args.bytes.now (sym c.in-Content.is ∙ e)),
)

pub returns-in_default : goal.returns-in_default
returns-in_default c = (λ (yes : false ≡ true). absurd cc, λ e. absurd (c.in_default.not-Content c.args.bytes.now e))
