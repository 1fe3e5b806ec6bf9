use Rattle.std.proofs.Common.{◌≡◌, ◌++◌}
use Rattle.dscript_sdk_pips.proofs.file_sets.values_of.Given as goal

abbrev pub invariant-files : goal.invariant-files
invariant-files l = l.sorted.items ++ l.file-iterator ≡ l.initial.file-iterator
