use Rattle.std.proofs.Common.{◌≡◌, Some, subst}
use Rattle.bx_io_disk.specs.Telling.{told}
use Rattle.bx_io_disk.specs.declared.record.Record.{Record}
use Rattle.bx_io_folder.proofs.Telling.{told_listed}
use Rattle.bx_io_folder.proofs.folder_keeper.FolderKeeperKeeper.names.Goals as goal

pub returns-clause-listed : goal.returns-clause-listed
returns-clause-listed g c held tells =
    let log = c.args.self.now.system.log in
    let noted = subst (λ (l : Record). told l.held l.events l.closed ≡ Some held) c.names.ensures.noted tells in
    (told_listed log.held log.events log.closed c.names.result held noted).1
