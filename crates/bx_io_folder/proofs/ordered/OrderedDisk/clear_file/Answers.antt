use Rattle.std.proofs.Common.{◌≡◌, ◌∙◌, [], Err, rules, sym}
use Rattle.std.specs.IoError.{error_kind}
use Rattle.std.specs.declared.io.ErrorKind.TheVariants.{NotFound}
use borrow.Author.Tests.{both_ways}
use Rattle.bx_io_folder.specs.Order.{blob_letter, entry_letter}
use Rattle.bx_io_disk.specs.declared.kind.Kind.TheVariants as kinds
use Rattle.bx_io_folder.proofs.Clearing.{cleared_absent, clears_none, clears_removed, left_long}
use Rattle.bx_io_folder.proofs.Locking.{begun_after, durable_next, may_change_alone, may_remove, removes_alone, unsynced_removed}
use Rattle.bx_io_folder.proofs.ordered.OrderedDisk.clear_file.Goals as goal

pub returns-in_err-is_left-clause-clears : goal.returns-in_err-is_left-clause-clears
returns-in_err-is_left-clause-clears g c known = clears_none _

pub returns-then-not-branch-clause-clears : goal.returns-then-not-branch-clause-clears
returns-then-not-branch-clause-clears g c known = clears_none _

pub returns-then-not-branch-clause-cleared : goal.returns-then-not-branch-clause-cleared
returns-then-not-branch-clause-cleared g c known left = absurd (both_ways c.in_ok-is_left.field-0 c.if-not-branch.true (c.in_ok-is_left.ensures.1 left))

pub invariant_of-self-clause-durable : goal.invariant_of-self-clause-durable
invariant_of-self-clause-durable g c =
    let path = c.args.path.now in
    let calls = g.D.Disk.calls c.args.self.now.disk in
    let begun = left_long path (c.in_ok-is_left.ensures.0 c.if-not-branch.false) in
    durable_next kinds.Removed path [] calls _ c.remove.ensures.calls
    (may_remove path [] calls (may_change_alone calls c.requires) (removes_alone path calls c.requires) (begun_after blob_letter entry_letter path calls begun)) c.args.self.now.durable

pub invariant_of-self-clause-blobs_known : goal.invariant_of-self-clause-blobs_known
invariant_of-self-clause-blobs_known g c is =
    let begun = left_long c.args.path.now (c.in_ok-is_left.ensures.0 c.if-not-branch.false) in
    c.args.self.now.blobs_known (sym (unsynced_removed blob_letter c.args.path.now [] _ _ c.remove.ensures.calls begun) ∙ is)

pub invariant_of-self-clause-entries_known : goal.invariant_of-self-clause-entries_known
invariant_of-self-clause-entries_known g c is =
    let begun = left_long c.args.path.now (c.in_ok-is_left.ensures.0 c.if-not-branch.false) in
    c.args.self.now.entries_known (sym (unsynced_removed entry_letter c.args.path.now [] _ _ c.remove.ensures.calls begun) ∙ is)

pub returns-in-Err-clause-clears : goal.returns-in-Err-clause-clears
returns-in-Err-clause-clears g c known =
    clears_removed _ _ c.args.path.now (Err c.in-Err.error) (c.in_ok-is_left.ensures.0 c.if-not-branch.false) (c.in-Err.ensures.removed known)

pub returns-in-Err-clause-cleared : goal.returns-in-Err-clause-cleared
returns-in-Err-clause-cleared g c known left =
    let missing : error_kind c.in-Err.error ≡ NotFound = search rules in
    cleared_absent _ _ c.args.path.now c.in-Err.error (c.in-Err.ensures.removed known) missing

pub returns-in_default-clause-clears : goal.returns-in_default-clause-clears
returns-in_default-clause-clears g c known =
    clears_removed _ _ c.args.path.now c.remove.result (c.in_ok-is_left.ensures.0 c.if-not-branch.false) (c.remove.ensures.removed known)

pub returns-in_default-clause-cleared : goal.returns-in_default-clause-cleared
returns-in_default-clause-cleared g c known = tt
