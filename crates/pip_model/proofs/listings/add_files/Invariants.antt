use Rattle.std.proofs.Common.{◌≡◌, ◌++◌, map, take}
use Rattle.pip_model.specs.Listings.{listing}
use Rattle.pip_model.proofs.listings.add_files.Given as goal

abbrev pub invariant-files : goal.invariant-files
invariant-files l = l.found.items ≡ l.initial.found.items ++ map (listing l.seal) (take l.file-index l.files)
