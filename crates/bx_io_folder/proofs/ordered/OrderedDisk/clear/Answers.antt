use Rattle.bx_io_folder.proofs.Clearing.{cleared_kinds, clears_on}
use Rattle.bx_io_folder.proofs.Listing.{on_ok}
use Rattle.bx_io_folder.proofs.ordered.OrderedDisk.clear.Goals as goal

pub returns-in_err-clear_kind-2-clause-clears : goal.returns-in_err-clear_kind-2-clause-clears
returns-in_err-clear_kind-2-clause-clears g c known = clears_on _ _ _ (c.in_ok-clear_kind.ensures.clears known) (c.in_err-clear_kind-2.ensures.clears known)

pub returns-clause-clears : goal.returns-clause-clears
returns-clause-clears g c known =
    clears_on _ _ _ (c.in_ok-clear_kind.ensures.clears known) (clears_on _ _ _ (c.in_ok-clear_kind-2.ensures.clears known) (c.clear_kind-3.ensures.clears known))

pub returns-clause-cleared : goal.returns-clause-cleared
returns-clause-cleared g c known =
    on_ok c.clear_kind-3.result _ _
    (λ third path left.
    cleared_kinds (g.D.Disk.files c.clear_kind.new.self.disk) (g.D.Disk.files c.clear_kind-2.new.self.disk) (g.D.Disk.files c.clear_kind-3.new.self.disk)
    (c.in_ok-clear_kind.ensures.cleared known) (c.in_ok-clear_kind-2.ensures.cleared known) third (c.in_ok-clear_kind-2.ensures.clears known)
    (c.clear_kind-3.ensures.clears known) path left)
    (c.clear_kind-3.ensures.cleared known)
