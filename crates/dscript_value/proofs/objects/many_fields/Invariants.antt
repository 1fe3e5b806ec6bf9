use Rattle.std.proofs.Common.{◌≡◌, [], map}
use Rattle.dscript_value.specs.Depths.{put_fields}
use Rattle.dscript_value.specs.Places.{KeepPlaces}
use Rattle.dscript_value.specs.Plain.{plain_field}
use Rattle.dscript_value.proofs.objects.many_fields.Given as goal

abbrev pub invariant-fields : goal.invariant-fields
invariant-fields l = record {
  put : put_fields (map plain_field l.done.items) (map plain_field l.field-iterator.rest.items)
      ≡ put_fields [] (map plain_field l.initial.field-iterator.rest.items);
  places : KeepPlaces l.places (map plain_field l.done.items);
}
