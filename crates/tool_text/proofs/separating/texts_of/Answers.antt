use Rattle.std.proofs.Common.{◌∙◌, ap, take, drop}
use Rattle.tool_text.proofs.Parts.{last_text, next_text}
use Rattle.tool_text.proofs.separating.texts_of.Goals as goal

pub returns-in_default : goal.returns-in_default
returns-in_default c =
    last_text c.texts.texts.items c.push.new.self.items c.trimmed.result c.texts.rest.now c.split_at.result.0.now c.split_at.result.1.now c.args.text.now
    c.in_ok-push.ensures.items c.trimmed.ensures
    (c.split_at.ensures.front ∙ ap (λ n. take n c.texts.rest.now) c.part_len.ensures.value)
    (c.split_at.ensures.back ∙ ap (λ n. drop n c.texts.rest.now) c.part_len.ensures.value)
    c.in_default.ensures.cases c.texts.invariant

pub texts-preserved : goal.texts-preserved
texts-preserved c =
    next_text c.texts.texts.items c.push.new.self.items c.trimmed.result c.texts.rest.now c.split_at.result.0.now c.split_at.result.1.now c.args.text.now
    c.in-Some.more.now c.in-Some.field-0-0.now
    c.in_ok-push.ensures.items c.trimmed.ensures
    (c.split_at.ensures.front ∙ ap (λ n. take n c.texts.rest.now) c.part_len.ensures.value)
    (c.split_at.ensures.back ∙ ap (λ n. drop n c.texts.rest.now) c.part_len.ensures.value)
    c.in-Some.ensures.cases.0 c.texts.invariant
