use Rattle.dscript_types_rows.proofs.Accessed.{accessed_listed, accessed_plain}
use Rattle.dscript_types_rows.proofs.access.accessed.Goals as goal

pub returns-then-not-can_be_list : goal.returns-then-not-can_be_list
returns-then-not-can_be_list c =
    accessed_plain c.args.t.now _ _ c.in_ok-members.ensures c.can_be_list.ensures c.if-not-can_be_list.true

pub returns : goal.returns
returns c =
    accessed_listed c.args.t.now _ _ c.in_ok-members.ensures c.can_be_list.ensures _ _ c.if-not-can_be_list.false
    c.in_ok-items_of.ensures c.in_ok-push.ensures.items
