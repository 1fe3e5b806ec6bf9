use Rattle.std.proofs.Common.{sym, ◌∙◌, arith}
use Rattle.violations.proofs.FirstClash.{next_found, next_passed, none_left}
use Rattle.violations.proofs.clashes.least_clash.Goals as goal

pub returns-then-slot_clashes : goal.returns-then-slot_clashes
returns-then-slot_clashes c =
    sym (next_found c.args.path.now c.args.pips.now c.args.slots.now c.pips.number c.index-pips-number.result c.index-slots-number.result
    c.pips-test.true (omega arith) c.index-pips-number.is c.index-slots-number.is
    (sym c.slot_clashes.ensures ∙ c.if-slot_clashes.true)) ∙ c.pips.invariant

pub pips-preserved : goal.pips-preserved
pips-preserved c =
    sym (next_passed c.args.path.now c.args.pips.now c.args.slots.now c.pips.number c.index-pips-number.result c.index-slots-number.result
    c.pips-test.true (omega arith) c.index-pips-number.is c.index-slots-number.is
    (sym c.slot_clashes.ensures ∙ c.if-slot_clashes.false)) ∙ c.pips.invariant

pub returns : goal.returns
returns c = sym (none_left c.args.path.now c.args.pips.now c.args.slots.now c.pips.number c.pips-test.false) ∙ c.pips.invariant
