use Rattle.std.proofs.Common.{arith}
use Rattle.std.proofs.lemmas.Grind.{common_steps}
use Rattle.bx_io.proofs.Pieces.{rest_kept}
use Rattle.bx_io.proofs.mem_source.MemSourceSource.read.Goals as goal

pub returns-clause-rest : goal.returns-clause-rest
returns-clause-rest c =
    rw c.read.ensures.count (rest_kept c.args.into.now c.read.new.into c.min-most.result _ (grind (arith, common_steps, c.read.auto.into)) (grind (arith, common_steps, c.read.auto.into)) (rw c.read.ensures.count at c.read.ensures.rest))
