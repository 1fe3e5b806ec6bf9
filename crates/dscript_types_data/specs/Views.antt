-- What contracts see of members and fields.
use Rattle.std.specs.Prelude.{◌≡◌, ℕ, ◌-◌, ◌^◌, ◌≤◌, List, [], ◌∷◌, length, map, min}
use Rattle.std.specs.declared.alloc.Global.{Global}
use Rattle.std.specs.declared.vec.Vec.{Vec}
use Rattle.dscript_types_data.specs.declared.types.Field.{Field}
use Rattle.dscript_types_data.specs.declared.types.Member.{Member}
use Rattle.dscript_types_data.specs.declared.types.Member.TheVariants as members
use Rattle.dscript_types_data.specs.declared.types.Group.{Group}
use Rattle.dscript_types_data.specs.declared.types.Group.TheVariants as groups
use Rattle.dscript_types_meaning.specs.Sizes.{fields_nodes, member_nodes, type_nodes}
use Rattle.dscript_types_meaning.specs.Types.{FieldData, MemberData, TypeData, Union, Values, Lists, Objects}
use Rattle.dscript_types_meaning.specs.Types.{members_of, to_fields, to_members}

abbrev pub member_data : Member → MemberData
member_data (members.Values kind) = Values kind
member_data (members.Lists item) = Lists item
member_data (members.Objects fields) = Objects (to_fields fields)

abbrev pub field_data : Field → FieldData
field_data f = record { name = f.name; optional = f.optional; type_data = f.type_data }

-- the members of a type, one after another
abbrev pub held : Group → List Member
held (groups.One member) = member ∷ []
held (groups.Many members) = members.items

-- the union of members that are in their order
abbrev pub union_data : List Member → TypeData
union_data members = Union (to_members (map member_data members))

abbrev pub fields_now : Vec Field Global → List FieldData
fields_now fields = map field_data fields.items

-- the count of nodes stands still at the greatest number
abbrev pub at_most : ℕ → ℕ
at_most n = min n (2 ^ 32 - 1)

abbrev pub IsCounted : ℕ → TypeData → Type 0
IsCounted nodes t = nodes ≡ at_most (type_nodes t)

abbrev pub AreCounted : ℕ → List FieldData → Type 0
AreCounted nodes fields = nodes ≡ at_most (fields_nodes (to_fields fields))

abbrev pub NodesOf : MemberData → ℕ → Type 0
NodesOf m nodes = nodes ≡ at_most (member_nodes m)

-- one member at most
abbrev pub IsFew : TypeData → Type 0
IsFew t = length (members_of t) ≤ 1
