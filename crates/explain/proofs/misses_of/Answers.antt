use Rattle.bx_io_folder.proofs.Telling.{none_named}
use Rattle.explain.proofs.misses_of.Goals as goal

pub ask-requires : goal.ask-requires
ask-requires c = none_named
