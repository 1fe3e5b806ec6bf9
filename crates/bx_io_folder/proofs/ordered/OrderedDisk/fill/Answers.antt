use Rattle.std.proofs.Common.{◌∙◌}
use Rattle.bx_io_folder.proofs.Files.{beside_names, put_named, puts_nothing}
use Rattle.bx_io_folder.proofs.Listing.{on_err_anyway}
use Rattle.bx_io_folder.proofs.Locking.{created_is_own}
use Rattle.bx_io_folder.proofs.Places.{goes_on_own_but, own_but_goes_on}
use Rattle.bx_io_folder.proofs.ordered.OrderedDisk.fill.Goals as goal

pub finish-requires-clause-own : goal.finish-requires-clause-own
finish-requires-clause-own g c =
    c.store.ensures.goes_on.own c.args.begun.now ∙ created_is_own c.args.begun.now (g.D.Disk.calls c.args.self.now.disk) c.requires.created

pub returns-in_err-store-clause-put : goal.returns-in_err-store-clause-put
returns-in_err-store-clause-put g c known =
    puts_nothing _ _ c.args.name.now c.args.bytes.now c.from_residual.result c.from_residual.ensures.0
    (beside_names _ _ c.args.begun.now c.requires.begun (c.in_err-store.ensures.written known))

pub returns-in_err-store-clause-kept : goal.returns-in_err-store-clause-kept
returns-in_err-store-clause-kept g c =
    on_err_anyway c.from_residual.result _
    (c.store.ensures.goes_on.own c.args.begun.now ∙ created_is_own c.args.begun.now (g.D.Disk.calls c.args.self.now.disk) c.requires.created)

pub returns-in_err-store-clause-own : goal.returns-in_err-store-clause-own
returns-in_err-store-clause-own g c = own_but_goes_on _ _ _ c.store.ensures.goes_on

pub returns-clause-put : goal.returns-clause-put
returns-clause-put g c known =
    put_named _ _ _ c.args.begun.now c.args.name.now c.args.bytes.now c.finish.result c.requires.begun (c.in_ok-store.ensures.written known) (c.finish.ensures.renamed known)

pub returns-clause-own : goal.returns-clause-own
returns-clause-own g c =
    goes_on_own_but c.args.begun.now (g.D.Disk.calls c.args.self.now.disk) (g.D.Disk.calls c.store.new.self.disk) (g.D.Disk.calls c.finish.new.self.disk)
    c.store.ensures.goes_on c.finish.ensures.own
