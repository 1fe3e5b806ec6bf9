-- When a type fits another: each value of the one is a value of the other.
use Rattle.std.specs.Prelude.{ℕ, ◌==◌, ◌&&◌, ◌||◌, not, Bool, true, false, List, find, Option, Some, None}
use Rattle.std.specs.List.{list_all, list_any}
use Rattle.std.specs.Str.{bytes_eq}
use Rattle.dscript_types_meaning.specs.declared.kind.Kind.{Kind}
use Rattle.dscript_types_meaning.specs.Types.{TypeData, MemberData, MemberRow, FieldRow, FieldData, Union, Values}
use Rattle.dscript_types_meaning.specs.Types.{Lists, Objects, no_members, more_members, no_fields, more_fields}
use Rattle.dscript_types_meaning.specs.Types.{field_list, members_of}
use Rattle.dscript_types_meaning.specs.Codes.{kind_number}

abbrev pub same_kind : Kind → Kind → Bool
same_kind a b = kind_number a == kind_number b

-- the field with a name
abbrev pub field_named : List FieldData → List ℕ → Option FieldData
field_named fields name = find (λ (f : FieldData). bytes_eq f.name name) fields

abbrev pub holds_of : {X : Type 0} → (X → Bool) → Option X → Bool
holds_of test None = false
holds_of test (Some x) = test x

-- whether a field with this name is there and required
abbrev pub requires : List FieldData → List ℕ → Bool
requires fields name = holds_of (λ (f : FieldData). not f.optional) (field_named fields name)

-- whether all required fields are required there too
abbrev pub are_required : List FieldData → List FieldData → Bool
are_required fields others = list_all (λ (f : FieldData). f.optional || requires others f.name) fields

-- Each member must fit a member of the other type. Lists fit by their items. An object fits where all its fields
-- are fields there and fit, and a field that is required there is required in it.
unfoldable mutual
  pub fits : TypeData → TypeData → Bool
  fits (Union members) t = all_fit members (members_of t)

  pub all_fit : MemberRow → List MemberData → Bool
  all_fit no_members others = true
  all_fit (more_members m more) others = list_any (λ o. member_fits m o) others && all_fit more others

  pub member_fits : MemberData → MemberData → Bool
  member_fits (Values kind) (Values other) = same_kind kind other
  member_fits (Lists item) (Lists other) = fits item other
  member_fits (Objects fields) (Objects others) =
      fields_fit fields (field_list others) && are_required (field_list others) (field_list fields)
  member_fits _ _ = false

  pub fields_fit : FieldRow → List FieldData → Bool
  fields_fit no_fields others = true
  fields_fit (more_fields name optional t more) others =
      holds_of (λ (f : FieldData). fits t f.type_data) (field_named others name) && fields_fit more others

-- whether a type fits another that there may not be; nothing fits none
abbrev pub fits_some : TypeData → Option TypeData → Bool
fits_some t other = holds_of (fits t) other
