use Rattle.std.proofs.Common.{◌≡◌, ◌++◌, drop}
use Rattle.pip_model.specs.Listings.{listings_from}
use Rattle.pip_model.proofs.listings.all_listings.Given as goal

abbrev pub invariant-pips : goal.invariant-pips
invariant-pips l = l.found.items ++ listings_from l.place (drop l.place l.pips) ≡ listings_from 0 l.pips
