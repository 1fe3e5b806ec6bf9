use Rattle.bx_io_folder.proofs.Files.{put_given_up}
use Rattle.bx_io_folder.proofs.Locking.{own_but_on}
use Rattle.bx_io_folder.proofs.ordered.OrderedDisk.complete.Goals as goal

pub returns-in-Err-clause-put : goal.returns-in-Err-clause-put
returns-in-Err-clause-put g c known =
    put_given_up _ _ _ c.args.name.now c.args.bytes.now c.in-Err.error (c.in-Err.ensures.put known) (c.give_up.ensures.names known)

pub returns-in-Err-clause-own : goal.returns-in-Err-clause-own
returns-in-Err-clause-own g c =
    own_but_on c.args.begun.now (g.D.Disk.calls c.args.self.now.disk) (g.D.Disk.calls c.fill.new.self.disk) (g.D.Disk.calls c.give_up.new.self.disk) c.fill.ensures.own
    c.give_up.ensures.own
