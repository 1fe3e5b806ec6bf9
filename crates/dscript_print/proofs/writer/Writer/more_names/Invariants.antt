use Rattle.std.proofs.Common.{◌≡◌, ◌++◌, map, take}
use Rattle.dscript_print.specs.Written.{written}
use Rattle.dscript_print.specs.Runs.{preceded, word_run}
use Rattle.dscript_print.proofs.writer.Writer.more_names.Given as goal

abbrev pub invariant-loop-name : goal.invariant-loop-name
invariant-loop-name l = written l.self ≡ written l.initial.self ++ preceded "," (map word_run (take l.name-index l.names))
