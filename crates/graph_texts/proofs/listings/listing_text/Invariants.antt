use Rattle.std.proofs.Common.{◌≡◌, take}
use Rattle.graph_texts.specs.Listings.{ArePaths}
use Rattle.graph_texts.specs.Listings.{listing_text as text_of}
use Rattle.graph_texts.proofs.listings.listing_text.Given as goal

abbrev pub invariant-paths : goal.invariant-paths
invariant-paths l = record {
  text : l.text.items ≡ text_of (take l.path-index l.paths);
  paths : ArePaths (take l.path-index l.paths);
}
