use Rattle.retire.proofs.SoFar.{run_met}
use Rattle.retire.proofs.build_laws.runs_are_compared.Goals as goal

pub returns : goal.returns
returns c = λ pips tree budget i S d see runs x m. run_met pips tree budget S x i d see runs m
