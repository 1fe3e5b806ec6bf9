use Rattle.std.proofs.Common.{arith}
use Rattle.dscript_types_notes.proofs.Nested.{list_made, lists_made}
use Rattle.dscript_types_notes.proofs.notes.lists_of.Goals as goal

pub lists-preserved : goal.lists-preserved
lists-preserved c = list_made c.lists.left c.lists.t _ _ (omega arith) c.in_ok-t.ensures c.lists.invariant

pub returns : goal.returns
returns c = lists_made c.lists.left c.lists.t _ (omega arith) c.lists.invariant
