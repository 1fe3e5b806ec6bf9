use Rattle.bundle_folder.proofs.RoundTrip.{pack_of_unpack}
use Rattle.bundle_folder.proofs.laws.unpacked_is_packed.Goals as goal

pub returns : goal.returns
returns c = pack_of_unpack
