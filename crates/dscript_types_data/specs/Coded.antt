-- Types with one code are equal.
use Rattle.std.specs.Prelude.{◌≡◌, ℕ, List, [], ◌∷◌}
use Rattle.std.proofs.Common.{ap, refl, sym, ◌∙◌}
use Rattle.std.specs.Coded.{Coded, coded_ℕ, coded_list}
use Rattle.dscript_types_meaning.specs.Codes.{fields_code, member_code, type_code}
use Rattle.dscript_types_meaning.specs.Types.{TypeData, FieldData, FieldRow, Lists, Objects, field_list, to_fields}
use Rattle.dscript_types_values.proofs.Coding.{one_member}

pub one_type : (t u : TypeData) → type_code t ≡ type_code u → t ≡ u
unfolding member_code
one_type t u e =
    let whole : Lists t ≡ Lists u = one_member (Lists t) (Lists u) (ap (λ code. 1 ∷ code) e) in cc

pub one_row : (fs gs : FieldRow) → fields_code fs ≡ fields_code gs → fs ≡ gs
unfolding member_code
one_row fs gs e =
    let whole : Objects fs ≡ Objects gs = one_member (Objects fs) (Objects gs) (ap (λ code. 2 ∷ code) e) in cc

pub fields_again : (fs : List FieldData) → field_list (to_fields fs) ≡ fs
fields_again [] = refl
fields_again (f ∷ fs) = ap (λ gs. f ∷ gs) (fields_again fs)

pub one_list : (fs gs : List FieldData) → fields_code (to_fields fs) ≡ fields_code (to_fields gs) → fs ≡ gs
one_list fs gs e =
    sym (fields_again fs) ∙ ap field_list (one_row (to_fields fs) (to_fields gs) e) ∙ fields_again gs

abbrev numbers : Coded (List ℕ)
numbers = coded_list coded_ℕ

abbrev pub types_coded : Coded TypeData
types_coded = record {
  code = λ t. numbers.code (type_code t);
  inj = λ t u e. one_type t u (numbers.inj (type_code t) (type_code u) e);
}

abbrev pub fields_coded : Coded (List FieldData)
fields_coded = record {
  code = λ fs. numbers.code (fields_code (to_fields fs));
  inj = λ fs gs e. one_list fs gs (numbers.inj (fields_code (to_fields fs)) (fields_code (to_fields gs)) e);
}
