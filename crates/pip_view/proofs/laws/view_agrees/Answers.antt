use Rattle.pip_view.proofs.Agreeing.{agrees}
use Rattle.pip_view.proofs.laws.view_agrees.Goals as goal

pub returns : goal.returns
returns c = agrees
