use Rattle.std.proofs.Common.{◌∙◌, None, Some, ap, cond, sym}
use Rattle.tool_faults.specs.declared.fault.Wrong.TheVariants as wrongs
use Rattle.tool_faults.proofs.judging.of_version.Goals as goal

pub returns-then-stands : goal.returns-then-stands
returns-then-stands c = λ why. ap (λ b. cond b None (Some wrongs.OfSecond)) (sym c.if-stands.true ∙ c.stands.ensures)

pub returns-else-stands : goal.returns-else-stands
returns-else-stands c = λ why. ap (λ b. cond b None (Some wrongs.OfSecond)) (sym c.if-stands.false ∙ c.stands.ensures)
