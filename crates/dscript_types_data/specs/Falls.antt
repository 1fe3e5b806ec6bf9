-- What a type holds is smaller than it.
use Rattle.std.specs.Prelude.{◌≤◌, List, [], ◌∷◌, map}
use Rattle.std.proofs.Common.{arith}
use denote.Param.Weighed.{most}
use Rattle.dscript_types_data.specs.declared.types.Field.{Field}
use Rattle.dscript_types_data.specs.declared.types.Member.{Member}
use Rattle.dscript_types_data.specs.declared.types.Member.TheVariants as members
use Rattle.dscript_types_data.specs.declared.types.Group.{Group}
use Rattle.dscript_types_data.specs.declared.types.Group.TheVariants as groups
use Rattle.dscript_types_data.specs.declared.types.Fields.TheDeep.{deep-Member, deep-Group, deep-Field}
use Rattle.dscript_types_data.specs.Views.{field_data, held, member_data}
use Rattle.dscript_types_data.specs.Weight.{fields_weight, member_weight, members_weight}
use Rattle.dscript_types_meaning.specs.Types.{to_fields, to_members}

member_falls : (m : Member) → deep-Member m ≤ member_weight (member_data m)
member_falls (members.Values kind) = omega arith
member_falls (members.Lists item) = omega arith
member_falls (members.Objects fields) = omega arith

pub members_fall
    : (ms : List Member) → most deep-Member ms ≤ members_weight (to_members (map member_data ms))
members_fall [] = omega arith
members_fall (m ∷ ms) = omega (arith, member_falls m, members_fall ms)

pub held_falls : (g : Group) → deep-Group g ≤ members_weight (to_members (map member_data (held g)))
held_falls (groups.One member) = omega (arith, member_falls member)
held_falls (groups.Many members) = omega (arith, members_fall members.items)

pub fields_fall : (fs : List Field) → most deep-Field fs ≤ fields_weight (to_fields (map field_data fs))
fields_fall [] = omega arith
fields_fall (f ∷ fs) = omega (arith, fields_fall fs)
