use Rattle.std.proofs.Common.{[]}
use Rattle.std.specs.FinMap.{empty}
use Rattle.bxl.proofs.exit_code.Given as goal

abbrev pub ghost-run : goal.ghost-run
ghost-run g a = ([], empty, empty)
