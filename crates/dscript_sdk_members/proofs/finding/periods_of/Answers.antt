use Rattle.std.proofs.Common.{arith}
use Rattle.dscript_sdk_members.proofs.PeriodSteps.{equal_byte, no_byte, period_there, shifted}
use Rattle.dscript_sdk_members.proofs.finding.periods_of.Goals as goal

pub bytes-preserved-then-text-place : goal.bytes-preserved-then-text-place
bytes-preserved-then-text-place c =
    equal_byte c.args.text.now c.bytes.place c.bytes.known c.bytes.periods.items _ c.bytes.invariant c.bytes-test.true c.if-text-place.true
    c.in_ok-push-2.ensures.items

pub bytes-preserved-in-Continue-branch-3 : goal.bytes-preserved-in-Continue-branch-3
bytes-preserved-in-Continue-branch-3 c =
    no_byte c.args.text.now c.bytes.place c.bytes.known c.bytes.periods.items _ c.bytes.invariant c.bytes-test.true c.if-known-eq0.true
    c.if-text-place.false c.in_ok-push-3.ensures.items

pub overflow_add-place-else-known-eq0 : goal.overflow_add-place-else-known-eq0
overflow_add-place-else-known-eq0 c =
    let period = period_there c.args.text.now c.bytes.place c.bytes.known c.bytes.periods.items _ c.bytes.invariant c.if-known-eq0.false c.index-shift.ensures in
    let within = period.within in
    omega arith

pub overflow_sub-known-else-known-eq0 : goal.overflow_sub-known-else-known-eq0
overflow_sub-known-else-known-eq0 c =
    (period_there c.args.text.now c.bytes.place c.bytes.known c.bytes.periods.items _ c.bytes.invariant c.if-known-eq0.false c.index-shift.ensures).within

pub bytes-preserved : goal.bytes-preserved
bytes-preserved c =
    shifted c.args.text.now c.bytes.place c.bytes.known _ c.bytes.periods.items c.bytes.invariant c.bytes-test.true c.if-text-place.false
    (period_there c.args.text.now c.bytes.place c.bytes.known c.bytes.periods.items _ c.bytes.invariant c.if-known-eq0.false c.index-shift.ensures)
