use Rattle.std.proofs.Common.{◌≡◌, ◌≤◌, ◌-◌, replicate}
use Rattle.std.specs.Prelude.{vec_len}
use Rattle.observed.specs.declared.access.Answer.TheVariants as answers
use Rattle.run_record.proofs.answers.absent.Given as goal

abbrev pub invariant-answers : goal.invariant-answers
invariant-answers l = record {
  none : l.absent.items ≡ replicate (vec_len l.absent) answers.Absent;
  few : vec_len l.absent ≤ l.count;
}

abbrev pub decreases-answers : goal.decreases-answers
decreases-answers l = l.count - vec_len l.absent
