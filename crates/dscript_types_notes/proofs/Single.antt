-- Types of one member, and names of one part.
use Rattle.std.proofs.Common.{◌≡◌, List, [], ◌∷◌, length, map, Some, None, refl, ap, sym, ◌∙◌, arith}
use Rattle.dscript_types_data.proofs.Rows.{fields_again, rows_again}
use Rattle.dscript_types_data.specs.declared.types.Member.{Member}
use Rattle.dscript_types_data.specs.declared.types.Member.TheVariants as members
use Rattle.dscript_types_data.specs.Views.{member_data}
use Rattle.dscript_types_meaning.specs.Annotations.{one_object}
use Rattle.dscript_types_meaning.specs.Types.{FieldData, MemberData, TypeData, Union, Values, Lists, Objects, members_of, to_members}
use Rattle.dscript_types_meaning.specs.declared.kind.Kind.{Kind}

row_is : (t : TypeData) (ms : List MemberData) → ms ≡ members_of t → one_object (Union (to_members ms)) ≡ one_object t
row_is (Union row) ms e = ap (λ xs. one_object (Union (to_members xs))) e ∙ ap (λ r. one_object (Union r)) (rows_again row)

more_than_one : (m : MemberData) (n : MemberData) (ms : List MemberData) → one_object (Union (to_members (m ∷ n ∷ ms))) ≡ None
more_than_one (Values kind) n ms = refl
more_than_one (Lists item) n ms = refl
more_than_one (Objects row) n ms = refl

module _ (t : TypeData) (all : List Member) (is : map member_data all ≡ members_of t) where
  pub no_member : all ≡ [] → None ≡ one_object t
  no_member e = ap (λ ms. one_object (Union (to_members (map member_data ms)))) (sym e) ∙ row_is t (map member_data all) is

  module _ (member : Member) (others : List Member) (split : all ≡ member ∷ others) where
    whole_is : one_object (Union (to_members (map member_data (member ∷ others)))) ≡ one_object t
    whole_is = ap (λ ms. one_object (Union (to_members (map member_data ms)))) (sym split) ∙ row_is t (map member_data all) is

    pub several_members : (length others ≡ 0 → ⊥) → None ≡ one_object t
    several_members some = sym (several others some) ∙ whole_is
      where
        several : (ms : List Member) → (length ms ≡ 0 → ⊥) → one_object (Union (to_members (map member_data (member ∷ ms)))) ≡ None
        several [] h = absurd (h refl)
        several (m ∷ ms) h = more_than_one (member_data member) (member_data m) (map member_data ms)

    single : length others ≡ 0 → one_object (Union (to_members (member_data member ∷ []))) ≡ one_object t
    single none = sole others none ∙ whole_is
      where
        sole
            : (ms : List Member) → length ms ≡ 0
            → one_object (Union (to_members (member_data member ∷ []))) ≡ one_object (Union (to_members (map member_data (member ∷ ms))))
        sole [] h = refl
        sole (m ∷ ms) h = absurd (omega (arith, h))

    pub one_value : (kind : Kind) → length others ≡ 0 → member ≡ members.Values kind → None ≡ one_object t
    one_value kind none e = sym (ap (λ m. one_object (Union (to_members (member_data m ∷ [])))) e) ∙ single none

    pub one_list : (item : TypeData) → length others ≡ 0 → member ≡ members.Lists item → None ≡ one_object t
    one_list item none e = sym (ap (λ m. one_object (Union (to_members (member_data m ∷ [])))) e) ∙ single none

    pub one_object_is
        : (fields : List FieldData) → length others ≡ 0 → member ≡ members.Objects fields → Some fields ≡ one_object t
    one_object_is fields none e =
        ap Some (sym (fields_again fields)) ∙ sym (ap (λ m. one_object (Union (to_members (member_data m ∷ [])))) e) ∙ single none
