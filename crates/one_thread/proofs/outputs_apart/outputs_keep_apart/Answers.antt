use Rattle.one_thread.proofs.KeptApart.{kept}
use Rattle.one_thread.proofs.outputs_apart.outputs_keep_apart.Goals as goal

pub returns : goal.returns
returns c = λ pips tree budget list keeps. kept pips tree budget list keeps c.accesses_hold.ensures
