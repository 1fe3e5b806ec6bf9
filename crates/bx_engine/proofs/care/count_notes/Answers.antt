use Rattle.std.proofs.Common.{append_assoc}
use Rattle.bx_engine.proofs.care.count_notes.Goals as goal

pub returns : goal.returns
returns c = simp append_assoc c.in_ok-text.ensures.ok
