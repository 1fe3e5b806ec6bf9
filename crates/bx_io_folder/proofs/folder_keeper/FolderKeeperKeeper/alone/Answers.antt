use Rattle.std.proofs.Common.{subst, sym}
use Rattle.bx_io.specs.Holdings.{Keeps}
use Rattle.bx_io_disk.specs.declared.record.Record.{Record}
use Rattle.bx_io_folder.proofs.Telling.{granted_alone, keeps_alone, store_of}
use Rattle.bx_io_folder.proofs.folder_keeper.FolderKeeperKeeper.alone.Goals as goal

pub returns-clause-granted : goal.returns-clause-granted
returns-clause-granted g c = rw c.alone.ensures.noted (granted_alone c.alone.result c.args.self.now.system.log.events)

pub returns-clause-known : goal.returns-clause-known
returns-clause-known g c =
    let log = c.args.self.now.system.log in
    subst (λ (l : Record). Keeps (store_of log.held log.events log.closed) (store_of l.held l.events l.closed)) (sym c.alone.ensures.noted)
    (keeps_alone log.held log.events log.closed c.alone.result)
