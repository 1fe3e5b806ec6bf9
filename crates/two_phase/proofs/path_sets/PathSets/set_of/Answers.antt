use Rattle.two_phase.proofs.Fetched.{set_kept}
use Rattle.two_phase.proofs.path_sets.PathSets.set_of.Goals as goal

pub returns-in-Some-clause-read : goal.returns-in-Some-clause-read
returns-in-Some-clause-read c =
    set_kept c.args.bytes.items c.as_slice.result.now c.args.digest.now c.in_ok-kept.field-0 c.in-Some.kept c.as_slice.ensures.value c.in-Some.is c.in_ok-kept.ensures
