use Rattle.std.proofs.Common.{◌+◌, ◌∙◌, sym, ap, drop, length}
use Rattle.tool_text.proofs.Cuts.{one_further, none_further}
use Rattle.tool_text.proofs.lines.cut.Goals as goal

pub returns-in-Some-clause-after : goal.returns-in-Some-clause-after
returns-in-Some-clause-after c =
    one_further c.args.text.now c.place_of.result c.in-Some.field-0-0.now c.in-Some.rest.now (sym c.split_at.ensures.back ∙ c.in-Some.ensures.cases.0)
    ∙ ap (λ n. drop (n + 1) c.args.text.now) c.place_of.ensures.value

pub returns-in-None-clause-after : goal.returns-in-None-clause-after
returns-in-None-clause-after c =
    c.split_at.ensures.back
    ∙ none_further c.args.text.now c.place_of.result (ap length (sym c.split_at.ensures.back) ∙ c.in-None.ensures.cases)
    ∙ ap (λ n. drop (n + 1) c.args.text.now) c.place_of.ensures.value
