-- Types as lists of numbers. Two types with one code are equal, and the order of codes is the order of members in
-- a union.
use Rattle.std.specs.Prelude.{ℕ, Bool, true, false, List, [], ◌∷◌, ◌++◌, length}
use Rattle.std.specs.Cmp.Lexicographic.{slice_cmp}
use Rattle.std.specs.Ordering.{nat_cmp, on}
use Rattle.std.specs.declared.cmp.Ordering.{Ordering}
use Rattle.dscript_types_meaning.specs.declared.kind.Kind.{Kind}
use Rattle.dscript_types_meaning.specs.declared.kind.Kind.TheVariants as kinds
use Rattle.dscript_types_meaning.specs.Types.{TypeData, MemberData, MemberRow, FieldRow, FieldData, Union, Values}
use Rattle.dscript_types_meaning.specs.Types.{Lists, Objects, no_members, more_members, no_fields, more_fields}

abbrev pub kind_number : Kind → ℕ
kind_number kinds.Undefined = 0
kind_number kinds.Boolean = 1
kind_number kinds.Number = 2
kind_number kinds.String = 3
kind_number kinds.Path = 4
kind_number kinds.File = 5
kind_number kinds.Directory = 6
kind_number kinds.RelativePath = 7
kind_number kinds.PathAtom = 8
kind_number kinds.Seal = 9
kind_number kinds.Opaque = 10
kind_number kinds.Process = 11
kind_number kinds.Artifact = 12
kind_number kinds.Argument = 13

abbrev pub flag_number : Bool → ℕ
flag_number false = 0
flag_number true = 1

-- No code is the beginning of another: a row has a 1 before each element and a 0 after the last, and a name comes
-- after its length.
unfoldable mutual
  pub type_code : TypeData → List ℕ
  type_code (Union members) = members_code members

  pub member_code : MemberData → List ℕ
  member_code (Values kind) = 0 ∷ kind_number kind ∷ []
  member_code (Lists item) = 1 ∷ type_code item
  member_code (Objects fields) = 2 ∷ fields_code fields

  pub members_code : MemberRow → List ℕ
  members_code no_members = 0 ∷ []
  members_code (more_members m more) = 1 ∷ member_code m ++ members_code more

  pub fields_code : FieldRow → List ℕ
  fields_code no_fields = 0 ∷ []
  fields_code (more_fields name optional t more) =
      1 ∷ length name ∷ name ++ flag_number optional ∷ type_code t ++ fields_code more

-- the order of members in a union
unfoldable pub member_cmp : MemberData → MemberData → Ordering
member_cmp = on member_code (slice_cmp nat_cmp)

-- the order of fields in an object type, which is that of their names
abbrev pub field_cmp : FieldData → FieldData → Ordering
field_cmp = on (λ (f : FieldData). f.name) (slice_cmp nat_cmp)
