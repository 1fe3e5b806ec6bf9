use Rattle.std.proofs.Common.{refl}
use Rattle.dscript_sdk_calls.proofs.Patterns.{is_pattern_false, is_pattern_true}
use Rattle.dscript_sdk_calls.proofs.globs.read_pattern.Goals as goal

pub returns-in-Some : goal.returns-in-Some
returns-in-Some c =
    let found = rw c.in-Some.is at c.in_ok-pattern.ensures in
    (is_pattern_true c.args.text.now found.0, found.1)

pub returns-in-None : goal.returns-in-None
returns-in-None c n = (refl, is_pattern_false c.args.text.now (rw c.in-None.is at c.in_ok-pattern.ensures))
