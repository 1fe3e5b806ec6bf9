use Rattle.retire.proofs.Twins.{one_process}
use Rattle.retire.proofs.build_laws.weak_texts_differ.Goals as goal

pub returns : goal.returns
returns c = λ pips tree budget S i j d e see view list keeps free. one_process pips tree list keeps free budget S i j d e see view
