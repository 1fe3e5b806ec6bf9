use Rattle.std.specs.FinMap.{empty}
use Rattle.tests_engine_folder.proofs.tests.refusal.Given as goal

abbrev pub ghost-new : goal.ghost-new
ghost-new g a = empty
