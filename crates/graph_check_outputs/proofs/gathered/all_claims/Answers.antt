use Rattle.std.proofs.Common.{ap, length, refl}
use Rattle.std.proofs.lemmas.Option.{slice_get_read}
use Rattle.graph_check_outputs.proofs.Claiming.{more_claims, no_claims, sorted_claims}
use Rattle.graph_check_outputs.proofs.gathered.all_claims.Goals as goal

pub pips-init : goal.pips-init
pips-init c = no_claims c.args.pips.now c.new-claims.result.items (ap length c.new-claims.ensures.items)

pub pips-preserved : goal.pips-preserved
pips-preserved c =
    let pips = c.args.pips.now in
    let pip = c.index-pips-number.result in
    let there = slice_get_read pips (length pips) c.pips.number pip refl c.pips-test.true c.index-pips-number.is in
    more_claims pips c.pips.number pip c.pips.claims.items c.add_pip.new.claims.items there c.in_ok-add_pip.ensures c.pips.invariant

pub returns : goal.returns
returns c =
    sorted_claims c.args.pips.now c.pips.number c.pips.claims.items c.in_claim_order.result.items c.pips-test.false c.pips.invariant
    c.in_claim_order.ensures.kept c.in_claim_order.ensures.sorted
