use Rattle.bx_io_disk.specs.Events.{left_of}
use Rattle.bx_io_system.proofs.Left.{left_on, end_on}
use Rattle.bx_io_system.proofs.laws.source_tells_on.Goals as goal

pub returns-clause-piece : goal.returns-clause-piece
returns-clause-piece c first bytes rest events is = left_on bytes rest (left_of first events) is

pub returns-clause-end : goal.returns-clause-end
returns-clause-end c first events is = end_on (left_of first events) is
