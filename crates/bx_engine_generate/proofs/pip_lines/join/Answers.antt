use Rattle.std.proofs.Common.{append_assoc}
use Rattle.bx_engine_generate.proofs.pip_lines.join.Goals as goal

pub returns : goal.returns
returns c = simp append_assoc c.in_ok-line.ensures.ok
