use Rattle.std.proofs.Common.{ap, sym, ◌∙◌}
use Rattle.std.specs.Option.{option_copied}
use Rattle.tool_text.specs.Tables.{place_in}
use Rattle.tool_faults.specs.Faults.{first_in}
use Rattle.tool_faults.proofs.judging.first_place.Goals as goal

pub returns-in-Some : goal.returns-in-Some
returns-in-Some c =
    c.copied.ensures ∙ c.get.ensures.value
    ∙ ap (first_in (place_in c.args.table.now)) (ap option_copied (sym c.in-Some.is) ∙ c.label_parts.ensures.label)

pub returns-in-None : goal.returns-in-None
returns-in-None c = ap (first_in (place_in c.args.table.now)) (ap option_copied (sym c.in-None.is) ∙ c.label_parts.ensures.label)
