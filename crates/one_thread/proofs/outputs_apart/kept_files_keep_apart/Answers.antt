use Rattle.one_thread.proofs.KeptApart.{are_outputs}
use Rattle.one_thread.proofs.outputs_apart.kept_files_keep_apart.Goals as goal

pub returns : goal.returns
returns c = λ pips tree made keeps kept. are_outputs pips tree keeps made kept
