use Rattle.std.proofs.Common.{◌≡◌, ◌++◌, drop, map}
use Rattle.dscript_types_data.specs.Views.{field_data, member_data}
use Rattle.dscript_types_meaning.specs.Objects.{spread_field}
use Rattle.dscript_types_meaning.specs.Types.{FieldData}
use Rattle.dscript_types_data.proofs.objects.add_spread.Given as goal

abbrev pub invariant-fields : goal.invariant-fields
invariant-fields l =
    map field_data l.added.items
    ++ map (spread_field (map member_data l.members)) (map (λ (f : FieldData). f.name) (map field_data (drop l.field-index l.named)))
    ≡ map field_data l.fn.added.items
    ++ map (spread_field (map member_data l.members)) (map (λ (f : FieldData). f.name) (map field_data l.named))
