use Rattle.std.proofs.Common.{inl, inr, arith, refl}
use Rattle.std.proofs.lemmas.Result.{IfOk-weaker}
use Rattle.graph_check_outputs.proofs.Overlapping.{overlap_cases, overlap_from}
use Rattle.graph_check_outputs.proofs.Telling.{tells_all}
use Rattle.graph_check_outputs.proofs.overlap.has_overlap.Goals as goal

pub returns-then-unshared-pips : goal.returns-then-unshared-pips
returns-then-unshared-pips c =
    let pips = c.args.pips.now in
    (λ t. overlap_from pips (inr (inr (inr ((tells_all pips c.args.unshared c.requires.unshared).1 c.if-unshared-pips.true)))), λ h. refl)

pub returns-then-branch : goal.returns-then-branch
returns-then-branch c = (λ t. overlap_from c.args.pips.now (inl (c.in_ok-outputs_overlap.ensures.0 c.if-branch.true)), λ h. refl)

pub returns-then-branch-2 : goal.returns-then-branch-2
returns-then-branch-2 c = (λ t. overlap_from c.args.pips.now (inr (inl (c.in_ok-seals_meet_dirs.ensures.0 c.if-branch-2.true))), λ h. refl)

pub returns : goal.returns
returns c =
    let pips = c.args.pips.now in
    IfOk-weaker c.seals_leave_out.result _ _
    (λ has h. (
      λ t. overlap_from pips (inr (inr (inl (h.0 t)))),
      λ o. elim (overlap_cases pips o) [
        | inl outs ↦ let t = c.in_ok-outputs_overlap.ensures.1 outs in let f = c.if-branch.false in cc
        | inr (inl dirs) ↦ let t = c.in_ok-seals_meet_dirs.ensures.1 dirs in let f = c.if-branch-2.false in cc
        | inr (inr (inl files)) ↦ h.1 files
        | inr (inr (inr shared)) ↦ absurd (omega (arith, (tells_all pips c.args.unshared c.requires.unshared).0 shared, c.if-unshared-pips.false))
      ],
    ))
    c.seals_leave_out.ensures
