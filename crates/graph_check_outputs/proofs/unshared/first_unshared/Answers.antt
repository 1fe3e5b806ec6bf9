use Rattle.std.proofs.Common.{◌⊎◌, ◌≡◌, ◌∙◌, List, length, ap, refl, subst, sym, arith}
use Rattle.std.specs.Prelude.{◌↔◌}
use Rattle.std.specs.List.{Any, Contains}
use Rattle.std.proofs.lemmas.Option.{slice_get_read}
use Rattle.bx_tree.specs.Paths.{Atoms}
use Rattle.graph_check_outputs.specs.Sharing.{declared_dir_paths, lone_paths}
use Rattle.graph_check_outputs.proofs.Firsts.{none_more}
use Rattle.graph_check_outputs.proofs.Repeats.{so_far_more, so_far_none}
use Rattle.graph_check_outputs.proofs.Telling.{tells}
use Rattle.graph_check_outputs.proofs.Unsharing.{ClashAt, clash_here, no_clash_here}
use Rattle.graph_check_outputs.proofs.unshared.first_unshared.Goals as goal

none_in : (xs : List Atoms) (x : Atoms) → length xs ≡ 0 → Contains xs x → ⊥
none_in xs x e (k, l, is) = absurd (omega (arith, l, e))

pub pips-init : goal.pips-init
pips-init c = record {
  none = λ j l. absurd (omega (arith, l));
  all = so_far_none declared_dir_paths c.args.pips.now (Contains c.in_ok-new.field-0) (λ x. none_in c.in_ok-new.field-0 x (ap length c.in_ok-new.ensures));
  lone = so_far_none lone_paths c.args.pips.now (Contains c.in_ok-new-2.field-0) (λ x. none_in c.in_ok-new-2.field-0 x (ap length c.in_ok-new-2.ensures));
}

pub returns-then-is_clash : goal.returns-then-is_clash
returns-then-is_clash c =
    let pip = c.index-pips-number.result in
    let pips = c.args.pips.now in
    let there = slice_get_read pips (length pips) c.pips.number pip refl c.pips-test.true c.index-pips-number.is in
    let dirs = c.as_slice.ensures.value ∙ c.in_ok-dirs.ensures in
    let lone = c.as_slice-in-pips.ensures.value ∙ c.in_ok-lone.ensures in
    let found = subst (λ (ds : List Atoms). Any (Contains c.pips.seen.all) (lone_paths pip.kind) ⊎ Any (Contains c.pips.seen.lone) ds) dirs
    (subst (λ (ls : List Atoms). Any (Contains c.pips.seen.all) ls ⊎ Any (Contains c.pips.seen.lone) c.as_slice.result.now) lone
    (c.is_clash.ensures.0 c.if-is_clash.true)) in
    tells pips c.pips.number c.pips.invariant.none
    (λ l. clash_here pips c.pips.number pip (Contains c.pips.seen.all) (Contains c.pips.seen.lone) there c.pips.invariant.all c.pips.invariant.lone found)

pub pips-preserved : goal.pips-preserved
pips-preserved c =
    let pip = c.index-pips-number.result in
    let pips = c.args.pips.now in
    let there = slice_get_read pips (length pips) c.pips.number pip refl c.pips-test.true c.index-pips-number.is in
    let all = Contains c.pips.seen.all in
    let lone_seen = Contains c.pips.seen.lone in
    let dirs = c.as_slice.ensures.value ∙ c.in_ok-dirs.ensures in
    let lone = c.as_slice-in-pips.ensures.value ∙ c.in_ok-lone.ensures in
    let dirs_again = c.as_slice-in-pips-2.ensures.value ∙ c.in_ok-dirs.ensures in
    let lone_again = c.as_slice-in-pips-3.ensures.value ∙ c.in_ok-lone.ensures in record {
      none = none_more (ClashAt pips) c.pips.number c.pips.invariant.none
          (no_clash_here pips c.pips.number pip all lone_seen there c.pips.invariant.all c.pips.invariant.lone
          (λ found. let t = c.is_clash.ensures.1
          (subst (λ (ds : List Atoms). Any all c.as_slice-in-pips.result.now ⊎ Any lone_seen ds) (sym dirs)
          (subst (λ (ls : List Atoms). Any all ls ⊎ Any lone_seen (declared_dir_paths pip.kind)) (sym lone) found)) in cc));
      all = so_far_more declared_dir_paths pips c.pips.number pip all (Contains c.see_all.new.seen) there c.pips.invariant.all
          (subst (λ (ds : List Atoms). (p : Atoms) → Contains c.see_all.new.seen p ↔ (all p ⊎ Contains ds p)) dirs_again c.in_ok-see_all.ensures);
      lone = so_far_more lone_paths pips c.pips.number pip lone_seen (Contains c.see_all-in-pips.new.seen) there c.pips.invariant.lone
          (subst (λ (ds : List Atoms). (p : Atoms) → Contains c.see_all-in-pips.new.seen p ↔ (lone_seen p ⊎ Contains ds p)) lone_again
          c.in_ok-see_all-2.ensures);
    }

pub returns : goal.returns
returns c =
    let pips = c.args.pips.now in
    tells pips (length pips) (λ j l clash. c.pips.invariant.none j (omega (arith, l, c.pips-test.false)) clash) (λ l. absurd (omega (arith, l)))
