use Rattle.bundle_folder.proofs.RoundTrip.{unpack_of_pack}
use Rattle.bundle_folder.proofs.laws.packed_is_unpacked.Goals as goal

pub returns : goal.returns
returns c = unpack_of_pack
