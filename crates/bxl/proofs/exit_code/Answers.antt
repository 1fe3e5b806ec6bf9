use denote.Param.Send.{sendable}
use Rattle.bx_io_folder.proofs.Telling.{none_named}
use Rattle.bxl.proofs.exit_code.Goals as goal

pub run-requires : goal.run-requires
run-requires g c κs lives = (lives, (search (sendable, c.type_bounds.sync-H), (none_named, none_named)))
