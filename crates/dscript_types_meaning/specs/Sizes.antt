-- How large types are.
use Rattle.std.specs.Prelude.{ℕ, ◌+◌, nat_le, if◌then◌else◌, Option, Some, None}
use Rattle.dscript_types_meaning.specs.declared.limits.TheConstants.{MAX_TYPE_NODES}
use Rattle.dscript_types_meaning.specs.Types.{TypeData, MemberData, MemberRow, FieldRow, Union, Values, Lists}
use Rattle.dscript_types_meaning.specs.Types.{Objects, no_members, more_members, no_fields, more_fields}

-- a union of one member is that member, and has no node of its own
abbrev pub union_node : MemberRow → ℕ
union_node no_members = 1
union_node (more_members m no_members) = 0
union_node (more_members m (more_members n more)) = 1

-- the nodes of a type: each kind, list and object, and each union of another number of members than one
unfoldable mutual
  pub type_nodes : TypeData → ℕ
  type_nodes (Union members) = union_node members + members_nodes members

  pub member_nodes : MemberData → ℕ
  member_nodes (Values kind) = 1
  member_nodes (Lists item) = type_nodes item + 1
  member_nodes (Objects fields) = fields_nodes fields + 1

  pub members_nodes : MemberRow → ℕ
  members_nodes no_members = 0
  members_nodes (more_members m more) = member_nodes m + members_nodes more

  -- fields have no nodes of their own
  pub fields_nodes : FieldRow → ℕ
  fields_nodes no_fields = 0
  fields_nodes (more_fields name optional t more) = type_nodes t + fields_nodes more

-- a type that is too large is none
abbrev pub within_limit : TypeData → Option TypeData
within_limit t = if nat_le (type_nodes t) MAX_TYPE_NODES then Some t else None
