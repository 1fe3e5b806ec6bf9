use Rattle.std.specs.Prelude.{length, map, string_bytes}
use Rattle.bx_engine_words.proofs.ReadSoFar.{ReadSoFar}
use Rattle.bx_engine_words.proofs.words.read_options.Given as goal

abbrev pub invariant-settings : goal.invariant-settings
invariant-settings l = ReadSoFar l.command (map string_bytes l.words) (map string_bytes l.rest) l.given

abbrev pub decreases-settings : goal.decreases-settings
decreases-settings l = length l.rest
