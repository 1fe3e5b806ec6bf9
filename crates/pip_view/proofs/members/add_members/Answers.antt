use Rattle.bx_tree.specs.Lent.{texts_now}
use Rattle.pip_view.proofs.OpaqueMembers.{names_member, no_member_names_left}
use Rattle.pip_view.proofs.members.add_members.Goals as goal

pub dirs-preserved : goal.dirs-preserved
dirs-preserved c =
    names_member c.args.inputs.now c.args.path.now c.args.dirs.now c.dirs.dir-index c.dir-item.result (texts_now c.dirs.names.items)
    (texts_now c.add_members_of.new.names.items) _ c.dirs-test.true c.dir-item.is c.in_ok-add_members_of.ensures c.dirs.invariant

pub returns : goal.returns
returns c =
    no_member_names_left c.args.inputs.now c.args.path.now c.args.dirs.now c.dirs.dir-index (texts_now c.dirs.names.items) _ c.dirs-test.false
    c.dirs.invariant
