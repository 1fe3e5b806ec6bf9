use Rattle.std.proofs.Common.{◌≡◌}
use Rattle.dscript_types_data.proofs.unions.listed.Given as goal

abbrev pub invariant-members : goal.invariant-members
invariant-members l = l.members.items ≡ l.yielded
