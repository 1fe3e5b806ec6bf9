use Rattle.dscript_names_workspace.proofs.ModuleNames.{own_names}
use Rattle.dscript_names_workspace.proofs.laws.names_differ.Goals as goal

pub returns : goal.returns
returns c = own_names
