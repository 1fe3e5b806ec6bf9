use Rattle.std.proofs.Common.{ap, sym, ◌∙◌}
use Rattle.std.proofs.lemmas.Bool.Decides.{Decides-eqb}
use Rattle.miss_reasons.specs.Finding.{line_kind}
use Rattle.miss_reasons.proofs.SameLines.{same_kind}
use Rattle.miss_reasons.proofs.selectors.is_same_line.Goals as goal

pub returns-in-Content : goal.returns-in-Content
returns-in-Content c = (
  λ e. c.in-Content.is ∙ sym (c.has_content.ensures.0 e),
  λ e. c.has_content.ensures.1 (sym e ∙ c.in-Content.is),
)

pub returns-in-Names : goal.returns-in-Names
returns-in-Names c = (
  λ e. c.in-Names.is ∙ sym (c.has_names.ensures.0 e),
  λ e. c.has_names.ensures.1 (sym e ∙ c.in-Names.is),
)

pub returns-in_default : goal.returns-in_default
returns-in_default c = (
  λ e. same_kind c.args.a.now c.args.b.now c.in_default.not-Content c.in_default.not-Names
      (sym c.kind_of-mine.ensures ∙ (Decides-eqb c.kind_of-mine.result c.kind_of-other.result).0 e ∙ c.kind_of-other.ensures),
  λ e. (Decides-eqb c.kind_of-mine.result c.kind_of-other.result).1 (c.kind_of-mine.ensures ∙ ap line_kind e ∙ sym c.kind_of-other.ensures),
)
