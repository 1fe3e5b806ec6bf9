use Rattle.dscript_names_binding.proofs.Moves.{next_walked}
use Rattle.std.proofs.Common.{arith}
use Rattle.dscript_names_binding.proofs.walker.Walker.next_local.Goals as goal

pub returns : goal.returns
returns c = next_walked c.args.self.now c.in-Some.next (omega (arith, c.in-Some.ensures))
