use Rattle.std.proofs.Common.{◌⊎◌, ◌≡◌, ◌∙◌, List, length, ap, refl, subst, sym, arith}
use Rattle.std.specs.Prelude.{◌↔◌}
use Rattle.std.specs.List.{Any, Contains}
use Rattle.std.proofs.lemmas.Option.{slice_get_read}
use Rattle.bx_tree.specs.Paths.{Atoms}
use Rattle.graph_check_outputs.specs.DoubleProducer.{DoubleProducerAt}
use Rattle.graph_check_outputs.specs.Outputs.{declared_files}
use Rattle.graph_check_outputs.proofs.Firsts.{none_at_all, none_more}
use Rattle.graph_check_outputs.proofs.Repeats.{repeats_within, so_far_more, so_far_no_repeat, so_far_none, so_far_repeats}
use Rattle.graph_check_outputs.proofs.double_producer.first_double_producer.Goals as goal

none_in : (xs : List Atoms) (x : Atoms) → length xs ≡ 0 → Contains xs x → ⊥
none_in xs x e (k, l, is) = absurd (omega (arith, l, e))

pub pips-init : goal.pips-init
pips-init c = record {
  none = λ j l. absurd (omega (arith, l));
  seen = so_far_none declared_files c.args.pips.now (Contains c.in_ok-seen.seen) (λ x. none_in c.in_ok-seen.seen x (ap length c.in_ok-seen.ensures));
}

pub returns-then-is_any_seen : goal.returns-then-is_any_seen
returns-then-is_any_seen c =
    let pip = c.index-pips-number.result in
    let there = slice_get_read c.args.pips.now (length c.args.pips.now) c.pips.number pip refl c.pips-test.true c.index-pips-number.is in
    let any = subst (Any (Contains c.pips.seen)) (c.as_slice.ensures.value ∙ c.in_ok-files.ensures) (c.is_any_seen.ensures.0 c.if-is_any_seen.true) in (
      so_far_repeats declared_files c.args.pips.now c.pips.number pip (Contains c.pips.seen) there c.pips.invariant.seen any,
      c.pips.invariant.none,
    )

pub pips-preserved : goal.pips-preserved
pips-preserved c =
    let pip = c.index-pips-number.result in
    let pips = c.args.pips.now in
    let there = slice_get_read pips (length pips) c.pips.number pip refl c.pips-test.true c.index-pips-number.is in
    let files = c.as_slice.ensures.value ∙ c.in_ok-files.ensures in
    let others = c.as_slice-in-pips.ensures.value ∙ c.in_ok-files.ensures in record {
      none = none_more (DoubleProducerAt pips) c.pips.number c.pips.invariant.none
          (so_far_no_repeat declared_files pips c.pips.number pip (Contains c.pips.seen) there c.pips.invariant.seen
          (λ any. let t = c.is_any_seen.ensures.1 (subst (Any (Contains c.pips.seen)) (sym files) any) in cc));
      seen = so_far_more declared_files pips c.pips.number pip (Contains c.pips.seen) (Contains c.see_all.new.seen) there c.pips.invariant.seen
          (subst (λ (ps : List Atoms). (p : Atoms) → Contains c.see_all.new.seen p ↔ (Contains c.pips.seen p ⊎ Contains ps p)) others
          c.in_ok-see_all.ensures);
    }

pub returns : goal.returns
returns c =
    none_at_all (DoubleProducerAt c.args.pips.now) (length c.args.pips.now) c.pips.number c.pips-test.false
    (repeats_within declared_files c.args.pips.now) c.pips.invariant.none
