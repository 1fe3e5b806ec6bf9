use Rattle.std.proofs.Common.{◌≡◌, ◌++◌, drop, map}
use Rattle.dscript_value.specs.Plain.{plain_of}
use Rattle.dscript_eval_frames.proofs.own.shares.Given as goal

abbrev pub invariant-values : goal.invariant-values
invariant-values l =
    map plain_of l.copies.items ++ map plain_of (drop l.value-index l.values) ≡ map plain_of l.values
