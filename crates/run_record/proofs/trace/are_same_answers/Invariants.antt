use Rattle.std.proofs.Common.{◌≡◌, take}
use Rattle.run_record.proofs.trace.are_same_answers.Given as goal

abbrev pub invariant-answers : goal.invariant-answers
invariant-answers l = take l.place l.a ≡ take l.place l.b
