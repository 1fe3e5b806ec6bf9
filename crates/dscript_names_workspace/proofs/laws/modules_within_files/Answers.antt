use Rattle.dscript_names_workspace.proofs.FoundModules.{within_files}
use Rattle.dscript_names_workspace.proofs.laws.modules_within_files.Goals as goal

pub returns : goal.returns
returns c = within_files
