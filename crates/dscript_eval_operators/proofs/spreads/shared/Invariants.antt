use Rattle.std.proofs.Common.{◌≡◌, ◌++◌, drop, map}
use Rattle.dscript_value.specs.Plain.{plain_field}
use Rattle.dscript_eval_operators.proofs.spreads.shared.Given as goal

abbrev pub invariant-fields : goal.invariant-fields
invariant-fields l =
    map plain_field l.copies.items ++ map plain_field (drop l.field-index l.fields) ≡ map plain_field l.fields
