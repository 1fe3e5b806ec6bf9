use Rattle.std.proofs.Common.{sym, ◌∙◌}
use Rattle.dscript_names_binding.proofs.Moves.{assigned_stops, assigned_walked}
use Rattle.dscript_names_binding.proofs.walker.Walker.assigned.Goals as goal

pub returns-in-Ok : goal.returns-in-Ok
returns-in-Ok c =
    assigned_walked c.args.name.now c.args.self.now c.in-Ok.number (sym c.assigned.ensures ∙ c.in-Ok.is)

pub returns-in-Err : goal.returns-in-Err
returns-in-Err c =
    assigned_stops c.args.name.now c.args.self.now c.in-Err.kind (sym c.assigned.ensures ∙ c.in-Err.is)
