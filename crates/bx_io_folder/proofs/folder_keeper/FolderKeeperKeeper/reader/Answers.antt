use Rattle.bx_io_disk.specs.Telling.{told}
use Rattle.bx_io_folder.proofs.Telling.{if_named}
use Rattle.bx_io_folder.proofs.folder_keeper.FolderKeeperKeeper.reader.Goals as goal

pub returns-in_err-again-clause-names : goal.returns-in_err-again-clause-names
returns-in_err-again-clause-names g c =
    let log = c.args.self.now.system.log in
    if_named (told log.held log.events log.closed) c.args.self.now.system.named

pub returns-clause-names : goal.returns-clause-names
returns-clause-names g c =
    let log = c.args.self.now.system.log in
    if_named (told log.held log.events log.closed) c.args.self.now.system.named
