use Rattle.std.proofs.Common.{[]}
use Rattle.tests_outside_system.proofs.tests.streams.a_reader_that_fails_is_a_source_that_fails_and_goes_on.Given as goal

abbrev pub ghost-new : goal.ghost-new
ghost-new g a = []
