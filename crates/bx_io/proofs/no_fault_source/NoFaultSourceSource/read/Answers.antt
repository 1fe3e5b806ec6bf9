use Rattle.std.proofs.Common.{arith}
use Rattle.std.proofs.lemmas.Grind.{common_steps}
use Rattle.bx_io.proofs.Pieces.{piece_given, piece_moved}
use Rattle.bx_io.proofs.no_fault_source.NoFaultSourceSource.read.Goals as goal

pub returns-clause-moved : goal.returns-clause-moved
returns-clause-moved c =
    rw (← c.self.view_is) (piece_moved c.self.inside.bytes.items c.copy_from_slice.new.self _ c.self.inside.given c.min-count.result (grind (arith, common_steps)) (grind (arith, common_steps)))

pub returns-clause-gave : goal.returns-clause-gave
returns-clause-gave c =
    rw (← c.self.view_is) (piece_given c.self.inside.bytes.items c.copy_from_slice.new.self _ c.self.inside.given c.min-count.result (grind (arith, common_steps)) (grind (arith, common_steps)))
