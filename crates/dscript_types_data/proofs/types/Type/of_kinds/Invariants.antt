use Rattle.std.proofs.Common.{◌≡◌, ◌++◌, drop, map}
use Rattle.dscript_types_data.specs.Views.{member_data}
use Rattle.dscript_types_meaning.specs.Types.{Values}
use Rattle.dscript_types_data.proofs.types.Type.of_kinds.Given as goal

abbrev pub invariant-kinds : goal.invariant-kinds
invariant-kinds l =
    map member_data l.members.items ++ map Values (drop l.kind-index l.kinds) ≡ map Values l.kinds
