use Rattle.std.proofs.Common.{[], ap, append-nil, map}
use Rattle.std.specs.Borrow.{Bor}
use Rattle.pip_model_types.specs.declared.dir_inputs.DirInput.{DirInput}
use Rattle.pip_view.proofs.ByPip.{all_sorted, one_more_sorted}
use Rattle.pip_view.proofs.members.opaque_by_pip.Goals as goal

pub dirs-init : goal.dirs-init
dirs-init c = ([], append-nil c.args.dirs.now, ap (map (λ (d : Bor DirInput). d.now)) c.new-sorted.ensures.items)

pub dirs-preserved : goal.dirs-preserved
dirs-preserved c =
    let (after, so_far, is) = c.dirs.invariant in
    one_more_sorted c.dirs.left.now c.in-Some.rest.now c.args.dirs.now after (map (λ (d : Bor DirInput). d.now) c.dirs.sorted.items)
    (map (λ (d : Bor DirInput). d.now) c.insert_opaque.new.sorted.items) c.in-Some.dir.now c.in-Some.ensures.cases.0 c.in_ok-insert_opaque.ensures
    so_far is

pub returns : goal.returns
returns c =
    let (after, so_far, is) = c.dirs.invariant in
    all_sorted c.dirs.left.now c.args.dirs.now after (map (λ (d : Bor DirInput). d.now) c.dirs.sorted.items) c.in_default.ensures.cases so_far is
