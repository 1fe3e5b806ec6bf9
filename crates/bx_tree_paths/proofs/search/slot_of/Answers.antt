use Rattle.std.proofs.Common.{◌≡◌, ◌+◌, ◌-◌, ◌<◌, ◌≤◌, ◌++◌, false, true, ap, arith, length, subst, sym, ◌∙◌}
use Rattle.std.specs.Prelude.{◌/◌}
use Rattle.std.specs.Cmp.Lexicographic.{slice_cmp}
use Rattle.std.specs.Ordering.{is_eq, is_lt, nat_cmp}
use Rattle.std.proofs.lemmas.List.{get_or_read}
use Rattle.bx_tree.specs.Paths.{path_text}
use Rattle.bx_tree_paths.proofs.Counting.{one_more}
use Rattle.bx_tree_paths.proofs.Halving.{IsHalved, all_halved, lower_half, lower_rest, middle_after, middle_less, some_left, upper_half, upper_rest}
use Rattle.bx_tree_paths.proofs.search.slot_of.Goals as goal

pub halves-preserved-then-is_lt : goal.halves-preserved-then-is_lt
halves-preserved-then-is_lt g c =
    let path = g.T.HasPath.path_in in
    let items = c.args.items.now in
    let text = c.args.first.now ++ c.args.second.now in
    let low = c.halves.low in
    let high = c.halves.high in
    let middle = low + (high - low) / 2 in
    let r = c.index-items-middle.result in
    let less : c.halves.low < c.halves.high = omega arith in
    let within : c.halves.high ≤ length c.args.items.now = c.halves.invariant.halved.within in
    let inside : c.halves.low + (c.halves.high - c.halves.low) / 2 < length c.args.items.now = omega (arith, middle_less low high less, within) in
    let order : c.compare-order.result ≡ slice_cmp nat_cmp (path_text (path r)) text =
    c.compare-order.ensures.order ∙ ap (λ p. slice_cmp nat_cmp (path_text p) text) c.path.ensures in
    let known : is_lt (slice_cmp nat_cmp (path_text (path r)) text) ≡ true =
    sym (c.is_lt.ensures ∙ ap is_lt order) ∙ c.if-is_lt.true in
    record {
      halved = upper_half path text items low high middle c.halves.is_there c.halves.invariant.halved c.requires (middle_less low high less)
          (λ d. ap (λ x. is_lt (slice_cmp nat_cmp (path_text (path x)) text)) (sym (get_or_read items middle r inside c.index-items-middle.is d)) ∙ known);
      taken = one_more _ _ _ _ _ _ c.halves.invariant.taken (some_left low high less) (upper_rest low high less) c.compare-order.ensures.step;
    }

pub halves-preserved : goal.halves-preserved
halves-preserved g c =
    let path = g.T.HasPath.path_in in
    let items = c.args.items.now in
    let text = c.args.first.now ++ c.args.second.now in
    let low = c.halves.low in
    let high = c.halves.high in
    let middle = low + (high - low) / 2 in
    let r = c.index-items-middle.result in
    let less : c.halves.low < c.halves.high = omega arith in
    let within : c.halves.high ≤ length c.args.items.now = c.halves.invariant.halved.within in
    let inside : c.halves.low + (c.halves.high - c.halves.low) / 2 < length c.args.items.now = omega (arith, middle_less low high less, within) in
    let order : c.compare-order.result ≡ slice_cmp nat_cmp (path_text (path r)) text =
    c.compare-order.ensures.order ∙ ap (λ p. slice_cmp nat_cmp (path_text p) text) c.path.ensures in
    let known : is_lt (slice_cmp nat_cmp (path_text (path r)) text) ≡ false =
    sym (c.is_lt.ensures ∙ ap is_lt order) ∙ c.if-is_lt.false in
    record {
      halved = lower_half path text items low high middle c.halves.is_there c.is_eq-is_there.result c.halves.invariant.halved c.requires
          (middle_after low high) (middle_less low high less)
          (λ d. ap (λ x. is_lt (slice_cmp nat_cmp (path_text (path x)) text)) (sym (get_or_read items middle r inside c.index-items-middle.is d)) ∙ known)
          (λ d. c.is_eq-is_there.ensures ∙ ap is_eq order
          ∙ ap (λ x. is_eq (slice_cmp nat_cmp (path_text (path x)) text)) (get_or_read items middle r inside c.index-items-middle.is d));
      taken = one_more _ _ _ _ _ _ c.halves.invariant.taken (some_left low high less) (lower_rest low high less) c.compare-order.ensures.step;
    }

pub returns-clause-slot : goal.returns-clause-slot
returns-clause-slot g c =
    let path = g.T.HasPath.path_in in
    let items = c.args.items.now in
    let text = c.args.first.now ++ c.args.second.now in
    let order : c.halves.low ≤ c.halves.high = c.halves.invariant.halved.order in
    let level : c.halves.high ≡ c.halves.low = omega (arith, order) in
    all_halved path text items c.halves.low c.halves.is_there
    (subst (λ h. IsHalved path text items c.halves.low h c.halves.is_there) level c.halves.invariant.halved) c.requires
