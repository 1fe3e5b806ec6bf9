use Rattle.std.proofs.Common.{subst}
use Rattle.std.specs.Prelude.{Contains}
use Rattle.bundle_folder.specs.Stored.{stored}
use Rattle.bundle_folder.proofs.Entries.{stored_has}
use Rattle.bundle_folder.proofs.mem_folder.file_at.Goals as goal

pub returns-in-Some : goal.returns-in-Some
returns-in-Some c =
    subst (Contains (stored c.args.things.now)) c.in-Some.ensures
    (stored_has c.args.things.now c.things.placed-index c.placed-item.result c.things-test.true c.placed-item.is)
