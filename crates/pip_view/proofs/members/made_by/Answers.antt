use Rattle.std.proofs.Common.{subst, sym}
use Rattle.pip_model_types.specs.Made.{RisingFiles}
use Rattle.pip_view.proofs.members.made_by.Goals as goal

pub returns-in-Some-clause-rising : goal.returns-in-Some-clause-rising
returns-in-Some-clause-rising c = subst RisingFiles (sym c.files.ensures.files) c.files.ensures.rising
