use Rattle.std.proofs.Common.{◌≡◌, map, take}
use Rattle.pip_model.specs.Listings.{listing_seal}
use Rattle.pip_model.proofs.listings.seals_of.Given as goal

abbrev pub invariant-files : goal.invariant-files
invariant-files l = l.seals.items ≡ map listing_seal (take l.file-index l.files)
