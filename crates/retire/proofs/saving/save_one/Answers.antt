use Rattle.std.proofs.Common.{arith, refl}
use Rattle.retire.proofs.Putting.{rose_once}
use Rattle.retire.proofs.saving.save_one.Goals as goal

pub returns-in-Fault-clause-faults : goal.returns-in-Fault-clause-faults
returns-in-Fault-clause-faults g c = λ some. rose_once _ _ _ _ _ c.in-Fault.ensures.keeper refl some

pub returns-in-Saved-clause-faults : goal.returns-in-Saved-clause-faults
returns-in-Saved-clause-faults g c = λ some. let later = c.in-Saved.ensures.keeper.cause.later in omega (arith, later)
