use Rattle.std.proofs.Common.{◌∙◌, ap, refl, sym}
use Rattle.prints.specs.ReadWeak.{read_weak_text}
use Rattle.miss_reasons.proofs.nearest.beside.Goals as goal

pub returns-in-Some : goal.returns-in-Some
returns-in-Some c = (refl, ap read_weak_text (sym c.as_slice.ensures.value) ∙ c.in_ok-parts.ensures ∙ c.in-Some.is)
