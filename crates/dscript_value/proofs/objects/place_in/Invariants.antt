use Rattle.std.proofs.Common.{◌≡◌, drop, map}
use Rattle.dscript_value.specs.Places.{first_place}
use Rattle.dscript_value.specs.Plain.{plain_field}
use Rattle.dscript_value.proofs.Finding.{place_from}
use Rattle.dscript_value.proofs.objects.place_in.Given as goal

abbrev pub invariant-fields : goal.invariant-fields
invariant-fields l = place_from plain_field l.name l.place (drop l.place l.fields) ≡ first_place (map plain_field l.fields) l.name
