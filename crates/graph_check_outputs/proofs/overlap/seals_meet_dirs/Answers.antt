use Rattle.std.proofs.Common.{inl, inr, ◌∙◌, List, refl, subst, sym}
use Rattle.bx_tree.specs.Paths.{Atoms}
use Rattle.bx_tree.specs.Below.{IsAtOrBelow}
use Rattle.graph_check_outputs.specs.Gathered.{IsListOf}
use Rattle.graph_check_outputs.specs.Sharing.{declared_dir_paths, full_roots}
use Rattle.graph_check_outputs.proofs.Overlapping.{SomePair, sealed_from_above, sealed_from_below, sealed_to}
use Rattle.graph_check_outputs.proofs.overlap.seals_meet_dirs.Goals as goal

pub returns-then-any_within : goal.returns-then-any_within
returns-then-any_within c =
    let pips = c.args.pips.now in
    let dirs = subst (IsListOf declared_dir_paths pips) (sym c.as_slice.ensures.value) c.in_ok-dirs.ensures in
    let roots = subst (IsListOf full_roots pips) (sym c.as_slice-2.ensures.value) c.in_ok-roots.ensures in
    (λ t. sealed_from_below pips c.as_slice.result.now c.as_slice-2.result.now dirs roots (c.any_within.ensures.0 c.if-any_within.true), λ h. refl)

pub returns : goal.returns
returns c =
    let pips = c.args.pips.now in
    let dirs = subst (IsListOf declared_dir_paths pips) (sym c.as_slice.ensures.value) c.in_ok-dirs.ensures in
    let roots = subst (IsListOf full_roots pips) (sym c.as_slice-2.ensures.value) c.in_ok-roots.ensures in
    let dirs_again = subst (IsListOf declared_dir_paths pips) (sym c.as_slice-4.ensures.value) c.in_ok-dirs.ensures in
    let roots_again = subst (IsListOf full_roots pips) (sym c.as_slice-3.ensures.value) c.in_ok-roots.ensures in
    let dirs_same = c.as_slice.ensures.value ∙ sym c.as_slice-4.ensures.value in
    let roots_same = c.as_slice-2.ensures.value ∙ sym c.as_slice-3.ensures.value in (
      λ t. sealed_from_above pips c.as_slice-4.result.now c.as_slice-3.result.now dirs_again roots_again (c.any_within-2.ensures.0 t),
      λ h. elim (sealed_to pips c.as_slice.result.now c.as_slice-2.result.now dirs roots h) [
        | inl below ↦ let t = c.any_within.ensures.1 below in let f = c.if-any_within.false in cc
        | inr above ↦ c.any_within-2.ensures.1 (subst (λ (rs : List Atoms). SomePair IsAtOrBelow rs c.as_slice-4.result.now) roots_same
            (subst (SomePair IsAtOrBelow c.as_slice-2.result.now) dirs_same above))
      ],
    )
