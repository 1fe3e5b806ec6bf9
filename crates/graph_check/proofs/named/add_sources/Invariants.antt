use Rattle.std.proofs.Common.{◌≡◌, ◌++◌, take}
use Rattle.graph_check.specs.NoSuchSource.{sources_among}
use Rattle.graph_check.proofs.named.add_sources.Given as goal

abbrev pub invariant-files : goal.invariant-files
invariant-files l = l.paths.items ≡ l.initial.paths.items ++ sources_among (take l.file-index l.files)
