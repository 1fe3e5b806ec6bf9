-- Lists of members and of fields, and their rows.
use Rattle.std.proofs.Common.{◌≡◌, List, [], ◌∷◌, map, refl, ap, sym, ◌∙◌}
use Rattle.dscript_types_data.specs.declared.types.Member.{Member}
use Rattle.dscript_types_data.specs.Views.{member_data, union_data}
use Rattle.dscript_types_data.specs.Weight.{members_weight, type_size}
use Rattle.dscript_types_meaning.specs.Types.{FieldData, FieldRow, MemberData, MemberRow, TypeData, Union, field_list}
use Rattle.dscript_types_meaning.specs.Types.{member_list, members_of, no_fields, more_fields, no_members, more_members}
use Rattle.dscript_types_meaning.specs.Types.{to_fields, to_members}

pub members_again : (ms : List MemberData) → member_list (to_members ms) ≡ ms
members_again [] = refl
members_again (m ∷ ms) = ap (λ ns. m ∷ ns) (members_again ms)

pub fields_again : (fs : List FieldData) → field_list (to_fields fs) ≡ fs
fields_again [] = refl
fields_again (f ∷ fs) = ap (λ gs. f ∷ gs) (fields_again fs)

pub row_again : (fs : FieldRow) → to_fields (field_list fs) ≡ fs
row_again no_fields = refl
row_again (more_fields name optional t fs) = ap (λ gs. more_fields name optional t gs) (row_again fs)

pub rows_again : (ms : MemberRow) → to_members (member_list ms) ≡ ms
rows_again no_members = refl
rows_again (more_members m ms) = ap (λ ns. more_members m ns) (rows_again ms)

-- the size of a type is that of its members
pub size_again : (t : TypeData) → members_weight (to_members (members_of t)) ≡ type_size t
size_again (Union ms) = ap members_weight (rows_again ms)

-- the members of a type are those that it was made of
pub members_are : (ms ns : List Member) (t : TypeData) → ns ≡ ms → union_data ms ≡ t → map member_data ns ≡ members_of t
members_are ms ns t e is = ap (map member_data) e ∙ sym (members_again (map member_data ms)) ∙ ap members_of is
