use Rattle.dscript_names_workspace.proofs.ModuleSharing.{share_none_of}
use Rattle.dscript_names_workspace.proofs.laws.no_file_is_shared.Goals as goal

pub returns : goal.returns
returns c = share_none_of
