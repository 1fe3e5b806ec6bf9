use Rattle.std.specs.FinMap.{empty}
use Rattle.tests_outside_system.proofs.tests.folder.open_store.Given as goal

abbrev pub ghost-new : goal.ghost-new
ghost-new a = empty
