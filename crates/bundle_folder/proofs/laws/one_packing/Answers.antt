use Rattle.bundle_folder.proofs.RoundTrip.{one_text}
use Rattle.bundle_folder.proofs.laws.one_packing.Goals as goal

pub returns : goal.returns
returns c = one_text
