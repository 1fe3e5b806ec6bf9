use Rattle.dscript_names_workspace.proofs.ModuleSources.{own_files}
use Rattle.dscript_names_workspace.proofs.laws.files_are_own.Goals as goal

pub returns : goal.returns
returns c = own_files
