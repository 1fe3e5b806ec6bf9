use Rattle.dscript_names_binding.proofs.Moves.{declare_walked}
use Rattle.dscript_names_binding.proofs.walker.Walker.declare.Goals as goal

pub returns : goal.returns
returns c = declare_walked c.args.name.now c.args.number c.args.self.now c.declare.new.self c.declare.ensures
