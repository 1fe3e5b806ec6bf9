use Rattle.std.proofs.Common.{subst, sym}
use Rattle.bx_tree.specs.Paths.{IsPathText}
use Rattle.bundle_folder.proofs.Held.{entry_fault}
use Rattle.bundle_folder.proofs.packing.path_of.Goals as goal

pub returns-in_ok-bad_place-in-Err-BadPath : goal.returns-in_ok-bad_place-in-Err-BadPath
returns-in_ok-bad_place-in-Err-BadPath c =
    entry_fault c.args.entry.now c.in_ok-bad_place-in-Err-BadPath.field-0
    (λ t. c.in-Err-BadPath.ensures c.in-Err-BadPath.field-0-is (subst IsPathText (sym c.as_bytes.ensures.value) t))
    c.in_ok-bad_place-in-Err-BadPath.ensures
