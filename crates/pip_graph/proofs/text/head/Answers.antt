use Rattle.std.proofs.Common.{refl}
use Rattle.pip_graph.specs.GraphText.{head_text}
use Rattle.pip_graph.proofs.text.head.Goals as goal

pub returns : goal.returns
unfolding head_text
returns c = refl
