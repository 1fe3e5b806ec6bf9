-- Types: unions of kinds of values, of lists and of closed objects.
use Rattle.std.specs.Prelude.{ℕ, Bool, List, [], ◌∷◌}
use Rattle.dscript_types_meaning.specs.declared.kind.Kind.{Kind}

mutual
  -- A type is the union of its members. Most types have one, and the type `never` has none.
  pub data TypeData : Type 0 where
    Union : MemberRow → TypeData

  -- the values of a kind, the lists of items of a type, or the objects with these fields and no others
  pub data MemberData : Type 0 where
    Values : Kind → MemberData
    Lists : TypeData → MemberData
    Objects : FieldRow → MemberData

  pub data MemberRow : Type 0 where
    no_members : MemberRow
    more_members : MemberData → MemberRow → MemberRow

  -- fields: the name of each, whether it may be missing, and the type of what it holds
  pub data FieldRow : Type 0 where
    no_fields : FieldRow
    more_fields : List ℕ → Bool → TypeData → FieldRow → FieldRow

-- a field of an object type: one that is optional is missing or holds a value of its type
pub record FieldData : Type 0 where
  pub name : List ℕ
  pub optional : Bool
  pub type_data : TypeData

-- ## Lists of members and of fields

abbrev pub member_list : MemberRow → List MemberData
member_list no_members = []
member_list (more_members m more) = m ∷ member_list more

abbrev pub to_members : List MemberData → MemberRow
to_members [] = no_members
to_members (m ∷ ms) = more_members m (to_members ms)

abbrev pub field_list : FieldRow → List FieldData
field_list no_fields = []
field_list (more_fields name optional t more) =
    record { name = name; optional = optional; type_data = t } ∷ field_list more

abbrev pub to_fields : List FieldData → FieldRow
to_fields [] = no_fields
to_fields (f ∷ fs) = more_fields f.name f.optional f.type_data (to_fields fs)

abbrev pub members_of : TypeData → List MemberData
members_of (Union members) = member_list members

-- ## Single types

-- the type with this one member
abbrev pub of_one : MemberData → TypeData
of_one m = Union (more_members m no_members)

abbrev pub kind_type : Kind → TypeData
kind_type kind = of_one (Values kind)

abbrev pub list_type : TypeData → TypeData
list_type item = of_one (Lists item)

-- the objects with these fields, which are in the order of their names
abbrev pub object_type : List FieldData → TypeData
object_type fields = of_one (Objects (to_fields fields))

abbrev pub never : TypeData
never = Union no_members
