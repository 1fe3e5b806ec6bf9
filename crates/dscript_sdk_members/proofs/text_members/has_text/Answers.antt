use Rattle.std.proofs.Common.{ap, is_some, ◌∙◌}
use Rattle.dscript_sdk_members.proofs.PlaceLemmas.{has_text-first_place}
use Rattle.dscript_sdk_members.proofs.text_members.has_text.Goals as goal

pub returns : goal.returns
returns c = c.is_some.ensures ∙ ap is_some c.find_text.ensures.place ∙ has_text-first_place c.args.other.now c.args.text.now
