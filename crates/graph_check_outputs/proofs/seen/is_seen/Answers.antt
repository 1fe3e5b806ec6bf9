use Rattle.std.proofs.Common.{sym, ◌∙◌}
use Rattle.graph_check_outputs.proofs.seen.is_seen.Goals as goal

pub returns : goal.returns
returns c = (λ t. c.find.ensures.there.0 (sym c.is_some.ensures ∙ t), λ h. c.is_some.ensures ∙ c.find.ensures.there.1 h)
