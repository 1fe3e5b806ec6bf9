use Rattle.std.specs.Prelude.{length}
use Rattle.explain_system.proofs.words.read_options.Given as goal

abbrev pub decreases-words : goal.decreases-words
decreases-words l = length l.rest
