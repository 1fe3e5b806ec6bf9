use Rattle.std.proofs.Common.{◌≡◌, ◌++◌, take}
use Rattle.bx_engine_front.proofs.projects.share_all.Given as goal

abbrev pub invariant-paths : goal.invariant-paths
invariant-paths l = l.paths.items ≡ l.initial.paths.items ++ take l.path-index l.more
