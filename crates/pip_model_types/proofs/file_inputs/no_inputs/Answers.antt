use Rattle.pip_model_types.proofs.Placed.{no_files_rise}
use Rattle.pip_model_types.proofs.file_inputs.no_inputs.Goals as goal

pub returns-clause-rising : goal.returns-clause-rising
returns-clause-rising c = no_files_rise
