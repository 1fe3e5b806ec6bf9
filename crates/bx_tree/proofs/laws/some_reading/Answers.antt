use Rattle.bx_tree.proofs.SomeReading as some
use Rattle.bx_tree.proofs.laws.some_reading.Goals as goal

pub returns : goal.returns
returns c = some.some_reading
