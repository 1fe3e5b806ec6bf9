use Rattle.std.proofs.Common.{◌≡◌, take}
use Rattle.pip_view_inputs.proofs.sharing.share_file_list.Given as goal

abbrev pub invariant-files : goal.invariant-files
invariant-files l = l.shared.items ≡ take l.file-index l.files
