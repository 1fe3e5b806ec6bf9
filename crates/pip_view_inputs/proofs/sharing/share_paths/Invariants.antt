use Rattle.std.proofs.Common.{◌≡◌, take}
use Rattle.pip_view_inputs.proofs.sharing.share_paths.Given as goal

abbrev pub invariant-paths : goal.invariant-paths
invariant-paths l = l.shared.items ≡ take l.path-index l.paths
