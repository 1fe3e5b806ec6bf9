use Rattle.pip_model_types.proofs.Placed.{no_files_rise}
use Rattle.pip_view.proofs.members.no_made.Goals as goal

pub returns-clause-rising : goal.returns-clause-rising
returns-clause-rising c = no_files_rise
