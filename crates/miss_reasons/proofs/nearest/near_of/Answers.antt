use Rattle.std.proofs.Common.{◌∙◌}
use Rattle.miss_reasons.proofs.Answering.{are_read}
use Rattle.miss_reasons.proofs.nearest.near_of.Goals as goal

pub returns-in-Some : goal.returns-in-Some
returns-in-Some c = are_read c.args.stored.now c.args.own.now.text.items c.in-Some.parts c.beside.result (c.in_ok-parts.ensures ∙ c.in-Some.is) c.beside.ensures
