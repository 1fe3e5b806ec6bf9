use Rattle.std.proofs.Common.{sym, ◌∙◌}
use Rattle.pip_view.proofs.OpaqueMembers.{below_member, none_below_left}
use Rattle.pip_view.proofs.members.has_member.Goals as goal

pub returns-then-has_member_of : goal.returns-then-has_member_of
returns-then-has_member_of c =
    below_member c.args.inputs.now c.args.path.now c.args.dirs.now c.dirs.dir-index c.dir-item.result _ _ c.dirs-test.true c.dir-item.is
    (sym c.has_member_of.ensures ∙ c.if-has_member_of.true) c.dirs.invariant

pub dirs-preserved : goal.dirs-preserved
dirs-preserved c =
    below_member c.args.inputs.now c.args.path.now c.args.dirs.now c.dirs.dir-index c.dir-item.result _ _ c.dirs-test.true c.dir-item.is
    (sym c.has_member_of.ensures ∙ c.if-has_member_of.false) c.dirs.invariant

pub returns : goal.returns
returns c = none_below_left c.args.inputs.now c.args.path.now c.args.dirs.now c.dirs.dir-index _ c.dirs-test.false c.dirs.invariant
