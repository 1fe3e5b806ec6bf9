use Rattle.std.proofs.Common.{◌≡◌, drop}
use Rattle.dscript_value.specs.Plain.{member_list, plain_fields}
use Rattle.dscript_sdk_values.specs.Objects.{has_all}
use Rattle.dscript_sdk_values.proofs.objects.has_all.Given as goal
use Rattle.bx_tree.specs.Lent.{texts_now}

abbrev pub invariant-names : goal.invariant-names
invariant-names l =
    has_all (texts_now (drop l.name-index l.required)) (member_list (plain_fields l.fields).members)
    ≡ has_all (texts_now l.required) (member_list (plain_fields l.fields).members)
