use Rattle.std.proofs.Common.{◌≡◌, drop}
use Rattle.dscript_sdk_values.specs.Objects.{is_among}
use Rattle.dscript_sdk_values.proofs.objects.is_name.Given as goal
use Rattle.bx_tree.specs.Lent.{texts_now}

abbrev pub invariant-names : goal.invariant-names
invariant-names l = is_among (texts_now (drop l.other-index l.names)) l.name ≡ is_among (texts_now l.names) l.name
