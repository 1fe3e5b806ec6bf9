use Rattle.dscript_types_known.proofs.Recently.{added_entry}
use Rattle.dscript_types_known.proofs.locals.Locals.adding.Goals as goal

pub returns : goal.returns
returns c = λ other.
    added_entry c.in_ok-new.field-0.value c.args.number c.args.local c.in_ok-older.older c.args.self.now.recent other _ _
    c.in_ok-new.ensures.ok c.in_ok-older.ensures (c.in_ok-share_branch.ensures other)
