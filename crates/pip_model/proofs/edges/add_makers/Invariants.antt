use Rattle.std.proofs.Common.{◌≡◌, ◌++◌, take}
use Rattle.pip_model.specs.Edges.{makers}
use Rattle.pip_model.proofs.edges.add_makers.Given as goal

abbrev pub invariant-files : goal.invariant-files
invariant-files l = l.found.items ≡ l.initial.found.items ++ makers (take l.file-index l.files)
