use Rattle.cache_care.proofs.Repaired.{honest_kept, repaired_honest}
use Rattle.cache_care.proofs.laws.repaired_is_honest.Goals as goal

pub returns-clause-honest : goal.returns-clause-honest
returns-clause-honest c = repaired_honest

pub returns-clause-kept : goal.returns-clause-kept
returns-clause-kept c = honest_kept
