use Rattle.bx_tree.proofs.OneReading.{one_tree, one_fault, no_fault}
use Rattle.bx_tree.proofs.laws.one_reading.Goals as goal

pub returns-clause-tree : goal.returns-clause-tree
returns-clause-tree c = one_tree

pub returns-clause-fault : goal.returns-clause-fault
returns-clause-fault c = one_fault

pub returns-clause-never_both : goal.returns-clause-never_both
returns-clause-never_both c = no_fault
