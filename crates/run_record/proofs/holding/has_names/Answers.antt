use Rattle.std.proofs.Common.{◌≡◌, false, true, ap, sym, ◌∙◌}
use Rattle.observed.specs.declared.access.Answer.TheVariants as answers
use Rattle.run_record.proofs.SameAnswers.{same_names}
use Rattle.run_record.proofs.holding.has_names.Goals as goal

pub returns-in-Names : goal.returns-in-Names
returns-in-Names c = (
  λ e. c.in-Names.is ∙ ap answers.Names (c.is_same_content.ensures.0 e),
  λ e. c.is_same_content.ensures.1 (same_names c.in-Names.own c.args.names.now (sym c.in-Names.is ∙ e)),
)

pub returns-in_default : goal.returns-in_default
returns-in_default c = (λ (yes : false ≡ true). absurd cc, λ e. absurd (c.in_default.not-Names c.args.names.now e))
