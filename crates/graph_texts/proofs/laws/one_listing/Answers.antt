use Rattle.graph_texts.proofs.ListingTexts.{same_paths}
use Rattle.graph_texts.proofs.laws.one_listing.Goals as goal

pub returns : goal.returns
returns c = same_paths
