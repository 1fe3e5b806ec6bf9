use Rattle.std.proofs.Common.{refl, sym, ◌∙◌}
use Rattle.dscript_parse.proofs.ItemLoop.{at_the_end, something_left}
use Rattle.dscript_parse.proofs.config.whole.Goals as goal

pub returns-then-is_empty : goal.returns-then-is_empty
returns-then-is_empty c = rw c.in-Ok.is (refl, at_the_end c.in-Ok.file.rest.now (sym c.is_empty.ensures ∙ c.if-is_empty.true))

pub returns-else-is_empty : goal.returns-else-is_empty
returns-else-is_empty c = rw c.in-Ok.is (refl, something_left c.in-Ok.file.rest.now (sym c.is_empty.ensures ∙ c.if-is_empty.false))
