use Rattle.std.proofs.Common.{sym}
use Rattle.pip_view.proofs.OpaqueMembers.{member_found, member_passed, no_member_left}
use Rattle.pip_view.proofs.members.find_member.Goals as goal

pub returns-in-Some : goal.returns-in-Some
returns-in-Some c =
    member_found c.args.inputs.now c.args.path.now c.args.dirs.now c.dirs.dir-index c.dir-item.result c.in-Some.blob.now _ c.dirs-test.true
    c.dir-item.is (sym c.in-Some.ensures) c.dirs.invariant

pub dirs-preserved : goal.dirs-preserved
dirs-preserved c =
    member_passed c.args.inputs.now c.args.path.now c.args.dirs.now c.dirs.dir-index c.dir-item.result _ c.dirs-test.true c.dir-item.is
    (sym c.in_default.ensures) c.dirs.invariant

pub returns : goal.returns
returns c = no_member_left c.args.inputs.now c.args.path.now c.args.dirs.now c.dirs.dir-index _ c.dirs-test.false c.dirs.invariant
