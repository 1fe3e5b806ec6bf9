use Rattle.std.proofs.Common.{◌≡◌, take}
use Rattle.pip_view_inputs.proofs.sharing.share_outdir_list.Given as goal

abbrev pub invariant-dirs : goal.invariant-dirs
invariant-dirs l = l.shared.items ≡ take l.dir-index l.dirs
