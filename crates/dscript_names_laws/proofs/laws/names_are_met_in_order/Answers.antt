use Rattle.dscript_names_laws.proofs.MetFiles.{met_in_order}
use Rattle.dscript_names_laws.proofs.laws.names_are_met_in_order.Goals as goal

pub returns : goal.returns
returns c = λ tokens items height d. met_in_order tokens items height d.derived
