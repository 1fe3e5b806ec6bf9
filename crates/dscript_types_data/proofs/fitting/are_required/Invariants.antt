use Rattle.std.proofs.Common.{◌≡◌, drop, map}
use Rattle.dscript_types_data.specs.Views.{field_data}
use Rattle.dscript_types_meaning.specs.Fits.{are_required}
use Rattle.dscript_types_data.proofs.fitting.are_required.Given as goal

abbrev pub invariant-fields : goal.invariant-fields
invariant-fields l =
    are_required (map field_data (drop l.field-index l.fields)) (map field_data l.others)
    ≡ are_required (map field_data l.fields) (map field_data l.others)
