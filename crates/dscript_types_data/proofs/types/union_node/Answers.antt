use Rattle.std.proofs.Common.{arith}
use Rattle.dscript_types_data.proofs.Counting.{no_node, own_node}
use Rattle.dscript_types_data.proofs.types.union_node.Goals as goal

pub returns-then-members-eq1 : goal.returns-then-members-eq1
returns-then-members-eq1 c = no_node c.args.members.now (omega (arith, c.if-members-eq1.true))

pub returns-else-members-eq1 : goal.returns-else-members-eq1
returns-else-members-eq1 c = own_node c.args.members.now (λ e. omega (arith, c.if-members-eq1.false, e))
