-- The members of a type at which a member of values is taken.
use Rattle.std.proofs.Common.{◌≡◌, Bool, true, false, List, [], ◌∷◌, ◌++◌, cond, filter, map, not, refl, ap, sym, ◌∙◌}
use Rattle.std.proofs.lemmas.List.{map-append}
use Rattle.std.specs.List.{list_any}
use Rattle.dscript_types_data.specs.declared.types.Member.{Member}
use Rattle.dscript_types_data.specs.declared.types.Member.TheVariants as members
use Rattle.dscript_types_data.specs.Views.{member_data}
use Rattle.dscript_types_meaning.specs.Access.{accessed}
use Rattle.dscript_types_meaning.specs.Types.{MemberData, TypeData, Values, Lists, Objects, members_of}
use Rattle.dscript_types_meaning.specs.Unions.{can_be_list, is_list, items_of}

no_lists : (ms : List MemberData) → list_any is_list ms ≡ false → filter (λ m. not (is_list m)) ms ≡ ms
no_lists [] e = refl
no_lists (Values kind ∷ ms) e = ap (λ ns. Values kind ∷ ns) (no_lists ms e)
no_lists (Lists item ∷ ms) e = cc
no_lists (Objects row ∷ ms) e = ap (λ ns. Objects row ∷ ns) (no_lists ms e)

abbrev others : TypeData → List MemberData
others t = filter (λ m. not (is_list m)) (members_of t)

module _ (t : TypeData) (ms : List Member) (listed : Bool) (kept : map member_data ms ≡ others t) (is : listed ≡ can_be_list t) where
  if_listed : (test : Bool) → listed ≡ test → accessed t ≡ cond test (others t ++ Lists (items_of t) ∷ []) (members_of t)
  if_listed test e = ap (λ b. cond b (others t ++ Lists (items_of t) ∷ []) (members_of t)) (sym is ∙ e)

  -- no list is among them
  pub accessed_plain : listed ≡ false → map member_data ms ≡ accessed t
  accessed_plain e = kept ∙ no_lists (members_of t) (sym is ∙ e) ∙ sym (if_listed false e)

  -- the lists count as one
  pub accessed_listed
      : (new : List Member) (u : TypeData) → listed ≡ true → u ≡ items_of t → new ≡ ms ++ members.Lists u ∷ []
      → map member_data new ≡ accessed t
  accessed_listed new u e same pushed =
      ap (map member_data) pushed ∙ map-append member_data ms (members.Lists u ∷ [])
      ∙ ap (λ xs. xs ++ Lists u ∷ []) kept ∙ ap (λ v. others t ++ Lists v ∷ []) same ∙ sym (if_listed true e)
