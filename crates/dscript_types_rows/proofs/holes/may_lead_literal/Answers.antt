use Rattle.std.proofs.Common.{ap, ◌∙◌}
use Rattle.dscript_types_meaning.specs.Fits.{fits}
use Rattle.dscript_types_rows.proofs.Closed.{leading_is}
use Rattle.dscript_types_rows.proofs.holes.may_lead_literal.Goals as goal

pub returns : goal.returns
returns c = c.is_of_kinds.ensures ∙ ap (fits c.args.t.now) leading_is
