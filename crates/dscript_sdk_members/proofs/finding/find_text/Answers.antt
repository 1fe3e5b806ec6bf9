use Rattle.std.proofs.Common.{sym, subst, arith, length, ◌<◌, ◌≡◌, ◌+◌, ◌-◌, get_or}
use Rattle.dscript_sdk_members.specs.Periods.{IsLeastPeriod}
use Rattle.dscript_sdk_members.proofs.FindingSteps.{found_here, moved, too_long_there, place_more}
use Rattle.dscript_sdk_members.proofs.finding.find_text.Goals as goal

pub returns-then-place-known-clause-place : goal.returns-then-place-known-clause-place
returns-then-place-known-clause-place c =
    sym (too_long_there c.args.text.now c.args.other.now c.places.place c.places.known c.places.invariant c.places-test.true c.if-place-known.true)

pub places-preserved-then-known-eq0 : goal.places-preserved-then-known-eq0
places-preserved-then-known-eq0 c =
    place_more c.args.text.now c.args.other.now c.places.place c.places.known c.places.invariant c.if-place-known.false c.places-test.true
    c.if-known-eq0.true c.if-text-place.false

pub places-preserved : goal.places-preserved
places-preserved c =
    let there : c.places.known - 1 < length c.args.periods.now = let some = c.if-known-eq0.false in let each = c.requires.each in let short = c.places-test.true in omega arith in
    let same : c.places.known - 1 + 1 ≡ c.places.known = let some = c.if-known-eq0.false in omega arith in
    moved c.args.text.now c.args.other.now c.places.place c.places.known _ c.places.invariant c.places-test.true c.if-text-place.false
    (subst (λ n. IsLeastPeriod c.args.other.now n (get_or c.args.periods.now (c.places.known - 1) 0)) same
    (c.requires.periods.each (c.places.known - 1) there))

pub returns-clause-place : goal.returns-clause-place
returns-clause-place c = sym (found_here c.args.text.now c.args.other.now c.places.place c.places.known c.places.invariant c.places-test.false)
