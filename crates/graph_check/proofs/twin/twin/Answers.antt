use Rattle.std.proofs.Common.{◌≡◌, List, length, ap, refl, arith}
use Rattle.std.specs.List.{Any}
use Rattle.std.proofs.lemmas.Option.{slice_get_read}
use Rattle.graph_check.specs.Described.{HasDescribed}
use Rattle.graph_check.specs.Twin.{TwinAt, descriptions}
use Rattle.graph_check.specs.declared.twin.Described.{Described}
use Rattle.graph_check_outputs.proofs.Firsts.{none_at_all, none_more}
use Rattle.graph_check_outputs.proofs.Repeats.{repeats_within, so_far_more, so_far_no_repeat, so_far_none, so_far_repeats}
use Rattle.graph_check.proofs.twin.twin.Goals as goal

none_of : (P : Described → Type 0) (xs : List Described) → length xs ≡ 0 → Any P xs → ⊥
none_of P xs e (k, x, l, is, p) = absurd (omega (arith, l, e))

pub pips-init : goal.pips-init
pips-init c = record {
  none = λ j l. absurd (omega (arith, l));
  seen = so_far_none descriptions c.args.pips.now (HasDescribed c.new-seen.result)
      (λ d. none_of _ c.new-seen.result.keys (ap length c.new-seen.ensures.empty));
}

pub returns-then-branch : goal.returns-then-branch
returns-then-branch c =
    let pip = c.index-pips-number.result in
    let there = slice_get_read c.args.pips.now (length c.args.pips.now) c.pips.number pip refl c.pips-test.true c.index-pips-number.is in (
      so_far_repeats descriptions c.args.pips.now c.pips.number pip (HasDescribed c.pips.seen) there c.pips.invariant.seen
          (c.in_ok-is_twin.ensures.twin.0 c.if-branch.true),
      c.pips.invariant.none,
    )

pub pips-preserved : goal.pips-preserved
pips-preserved c =
    let pip = c.index-pips-number.result in
    let pips = c.args.pips.now in
    let there = slice_get_read pips (length pips) c.pips.number pip refl c.pips-test.true c.index-pips-number.is in record {
      none = none_more (TwinAt pips) c.pips.number c.pips.invariant.none
          (so_far_no_repeat descriptions pips c.pips.number pip (HasDescribed c.pips.seen) there c.pips.invariant.seen
          (λ any. let t = c.in_ok-is_twin.ensures.twin.1 any in cc));
      seen = so_far_more descriptions pips c.pips.number pip (HasDescribed c.pips.seen) (HasDescribed c.is_twin.new.seen) there c.pips.invariant.seen
          c.in_ok-is_twin.ensures.added;
    }

pub returns : goal.returns
returns c =
    none_at_all (TwinAt c.args.pips.now) (length c.args.pips.now) c.pips.number c.pips-test.false
    (repeats_within descriptions c.args.pips.now) c.pips.invariant.none
