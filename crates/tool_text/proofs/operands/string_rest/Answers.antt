use Rattle.std.proofs.Common.{ap, ◌∙◌}
use Rattle.tool_text.specs.Reading.{after_bytes, string_rest}
use Rattle.tool_text.proofs.Strings.{one_plain, one_escape}
use Rattle.tool_text.proofs.operands.string_rest.Goals as goal

pub bytes-preserved-then-first-eq92 : goal.bytes-preserved-then-first-eq92
bytes-preserved-then-first-eq92 c =
    ap (λ xs. after_bytes xs (string_rest c.in-Some-split_first.after.now)) c.in_ok-push.ensures.items
    ∙ one_escape c.bytes.bytes.items c.bytes.rest.now c.in-Some.more.now c.in-Some-split_first.after.now c.in-Some.first.now c.in-Some-split_first.code.now c.in-Some-escape_of.byte
    c.in-Some.ensures.cases.0 c.in-Some-split_first.ensures.cases.0 c.if-first-eq34.false c.if-first-eq92.true c.in-Some-escape_of.ensures
    ∙ c.bytes.invariant

pub bytes-preserved : goal.bytes-preserved
bytes-preserved c =
    ap (λ xs. after_bytes xs (string_rest c.in-Some.more.now)) c.in_ok-push-2.ensures.items
    ∙ one_plain c.bytes.bytes.items c.bytes.rest.now c.in-Some.more.now c.in-Some.first.now
    c.in-Some.ensures.cases.0 c.if-first-eq34.false c.if-first-eq92.false c.if-first-eq10.false
    ∙ c.bytes.invariant
