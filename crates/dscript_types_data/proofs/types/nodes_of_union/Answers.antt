use Rattle.dscript_types_data.proofs.Counting.{union_counted}
use Rattle.dscript_types_data.proofs.types.nodes_of_union.Goals as goal

pub returns : goal.returns
returns c =
    union_counted c.args.members.now c.members.member-index c.members.nodes c.members-test.false c.members.invariant.0 c.members.invariant.1
