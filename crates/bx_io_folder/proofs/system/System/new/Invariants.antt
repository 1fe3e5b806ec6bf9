use Rattle.std.proofs.Common.{[]}
use Rattle.bx_io_folder.proofs.system.System.new.Given as goal

abbrev pub ghost-new : goal.ghost-new
ghost-new g a = ([], g.held)
