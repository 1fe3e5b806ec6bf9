use Rattle.std.proofs.Common.{ap, not}
use Rattle.bundle_folder.proofs.Within.{same_test}
use Rattle.bundle_folder.proofs.places.is_outside.Goals as goal

pub returns : goal.returns
returns c = ap not (same_test c.is_within.result c.args.place.now c.args.top.now c.is_within.ensures)
