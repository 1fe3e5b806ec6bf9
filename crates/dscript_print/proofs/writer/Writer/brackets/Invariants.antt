use Rattle.std.proofs.Common.{◌≡◌, ◌++◌, ◌∷◌, []}
use Rattle.dscript_print.specs.Written.{written}
use Rattle.dscript_print.specs.Runs.{punct, repeated}
use Rattle.dscript_print.proofs.writer.Writer.brackets.Given as goal

abbrev pub invariant-loop-level : goal.invariant-loop-level
invariant-loop-level l = written l.self ≡ written l.initial.self ++ repeated l._level (punct "[" ∷ punct "]" ∷ [])
