-- The order of members, part by part.
use Rattle.std.proofs.Common.{◌≡◌, ℕ, List, length, refl}
use Rattle.std.specs.Cmp.{IsEquivalence, IsPartialEquivalence, IsPartialOrder, IsTotalOrder, partial_equiv_from_equiv, po}
use Rattle.std.specs.Cmp.Lexicographic.{slice_cmp}
use Rattle.std.specs.Ordering.{as_partial_cmp, bool_cmp, eq_by_cmp, nat_cmp, on, ordering_then}
use Rattle.std.specs.declared.cmp.Ordering.{Ordering}
use Rattle.std.proofs.lemmas.Cmp.{eq_by_cmp_equiv, nat_list_cmp_total, on_total}
use Rattle.dscript_types_data.specs.declared.types.Member.{Member}
use Rattle.dscript_types_data.specs.Views.{member_data}
use Rattle.dscript_types_meaning.specs.Codes.{member_cmp, member_code}
use Rattle.dscript_types_meaning.specs.Types.{FieldData, TypeData, members_of}

-- ## Types and fields

abbrev pub types_order : TypeData → TypeData → Ordering
types_order t u = slice_cmp member_cmp (members_of t) (members_of u)

-- names by their lengths, and then by their bytes
abbrev pub name_order : List ℕ → List ℕ → Ordering
name_order x y = ordering_then (nat_cmp (length x) (length y)) (slice_cmp nat_cmp x y)

abbrev pub label_order : FieldData → FieldData → Ordering
label_order f g = ordering_then (name_order f.name g.name) (bool_cmp f.optional g.optional)

abbrev pub field_order : FieldData → FieldData → Ordering
field_order f g = ordering_then (label_order f g) (types_order f.type_data g.type_data)

-- ## Members as sets have them

abbrev pub shared_cmp : Member → Member → Ordering
shared_cmp = on member_data member_cmp

member_total : IsTotalOrder member_cmp
unfolding member_cmp
member_total = on_total member_code nat_list_cmp_total

pub shared_total : IsTotalOrder shared_cmp
shared_total = on_total member_data member_total

pub same_members_equiv : IsEquivalence (eq_by_cmp shared_cmp)
same_members_equiv = eq_by_cmp_equiv shared_total

pub same_members_partial : IsPartialEquivalence (eq_by_cmp shared_cmp)
same_members_partial = partial_equiv_from_equiv same_members_equiv

pub shared_matches : (m n : Member) → eq_by_cmp shared_cmp m n ≡ eq_by_cmp shared_cmp m n
shared_matches m n = refl

pub shared_partial : IsPartialOrder (eq_by_cmp shared_cmp) (as_partial_cmp shared_cmp)
shared_partial = po shared_total shared_matches
