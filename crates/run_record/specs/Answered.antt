-- Stored answers as a function from asks.
use Rattle.std.specs.Prelude.{List, [], ◌∷◌, Option, Some, None, if◌then◌else◌}
use Rattle.observed.specs.Asks.{same_ask}
use Rattle.observed.specs.declared.ask.Ask.{Ask}
use Rattle.observed.specs.declared.access.Access.{Access}
use Rattle.observed.specs.declared.access.Access.TheVariants.{Asked, Wrote, WriteDenied}
use Rattle.observed.specs.declared.access.Answer.{Answer}
use Rattle.observed.specs.declared.access.Answer.TheVariants as answers

-- the answer that is stored for an ask, or absent
abbrev pub answered : List Ask → List Answer → Ask → Answer
answered [] stored q = answers.Absent
answered (x ∷ xs) [] q = answers.Absent
answered (x ∷ xs) (a ∷ stored) q = if same_ask x q then a else answered xs stored q

abbrev pub or_absent : Option Answer → Answer
or_absent None = answers.Absent
or_absent (Some answer) = answer

abbrev pub or_before : Option Answer → Option Answer → Option Answer
or_before None before = before
or_before (Some answer) before = Some answer

-- the answer that an ask was given, if it was asked: the last one
abbrev pub recorded : List Access → Ask → Option Answer
recorded [] q = None
recorded (Asked ask answer ∷ rest) q =
    or_before (recorded rest q) (if same_ask ask q then Some answer else None)
recorded (Wrote path ∷ rest) q = recorded rest q
recorded (WriteDenied path ∷ rest) q = recorded rest q

-- the recorded answer of an ask after one access more
abbrev pub with_access : Access → Ask → Option Answer → Option Answer
with_access (Asked ask answer) q before = if same_ask ask q then Some answer else before
with_access (Wrote path) q before = before
with_access (WriteDenied path) q before = before

-- the answer that an ask was given, absent where it was not asked
abbrev pub given_in : List Access → Ask → Answer
given_in accesses q = or_absent (recorded accesses q)
