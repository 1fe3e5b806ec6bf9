use Rattle.dscript_types_data.specs.Views.{field_data}
use Rattle.dscript_types_data.proofs.Placing.{GoesOn}
use Rattle.dscript_types_data.proofs.objects.place_of.Given as goal

abbrev pub invariant-fields : goal.invariant-fields
invariant-fields l = GoesOn l.fields (field_data l.field) l.place
