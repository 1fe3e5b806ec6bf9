use Rattle.std.proofs.Common.{Ok, ap, subst}
use Rattle.bx_io_folder.specs.NamedFiles.{Clears}
use Rattle.bx_io_disk.specs.Files.{Files}
use Rattle.bx_io_folder.proofs.Clearing.{cleared_missing, clears_same}
use Rattle.bx_io_folder.proofs.ordered.OrderedDisk.work_alone.Goals as goal

pub returns-in_err-lock_alone-clause-clears : goal.returns-in_err-lock_alone-clause-clears
returns-in_err-lock_alone-clause-clears g c known = clears_same _ _ c.lock_alone.ensures.files

pub returns-then-branch-clause-clears : goal.returns-then-branch-clause-clears
returns-then-branch-clause-clears g c known =
    subst (λ (files : Files). Clears files (g.D.Disk.files c.clear.new.self.disk)) c.lock_alone.ensures.files (c.clear.ensures.clears known)

pub returns-else-branch-clause-clears : goal.returns-else-branch-clause-clears
returns-else-branch-clause-clears g c known = clears_same _ _ c.lock_alone.ensures.files

pub returns-else-branch-clause-cleared : goal.returns-else-branch-clause-cleared
returns-else-branch-clause-cleared g c known path left =
    cleared_missing _ _ (c.in_ok-lock_alone.ensures.missing known (ap Ok c.if-branch.false)) c.lock_alone.ensures.files path left
