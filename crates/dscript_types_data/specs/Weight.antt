-- How many members and fields a type has, at all depths.
use Rattle.std.specs.Prelude.{ℕ, ◌+◌, List}
use Rattle.dscript_types_meaning.specs.Types.{TypeData, MemberData, MemberRow, FieldRow, FieldData, Union, Values}
use Rattle.dscript_types_meaning.specs.Types.{Lists, Objects, no_members, more_members, no_fields, more_fields}
use Rattle.dscript_types_meaning.specs.Types.{to_fields}

abbrev mutual
  pub type_size : TypeData → ℕ
  type_size (Union members) = members_weight members

  pub member_weight : MemberData → ℕ
  member_weight (Values kind) = 0
  member_weight (Lists item) = 1 + type_size item
  member_weight (Objects fields) = 1 + fields_weight fields

  pub members_weight : MemberRow → ℕ
  members_weight no_members = 0
  members_weight (more_members m more) = 1 + member_weight m + members_weight more

  pub fields_weight : FieldRow → ℕ
  fields_weight no_fields = 0
  fields_weight (more_fields name optional t more) = 2 + type_size t + fields_weight more

abbrev pub fields_size : List FieldData → ℕ
fields_size fields = fields_weight (to_fields fields)
