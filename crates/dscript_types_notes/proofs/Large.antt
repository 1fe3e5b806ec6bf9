-- Types that are too large in any case.
use Rattle.std.proofs.Common.{◌≡◌, ℕ, zero, suc, ◌<◌, ◌≤◌, Bool, List, [], ◌∷◌, length, Option, Some, None, refl, ap, arith}
use Rattle.std.proofs.lemmas.Bool.Decides.{nat_tests}
use Rattle.std.specs.Option.{option_and_then}
use Rattle.std.specs.Ordering.{match_ordering}
use Rattle.std.specs.declared.cmp.Ordering.{Ordering}
use Rattle.std.specs.declared.cmp.Ordering.TheVariants.{Less, Equal, Greater}
use Rattle.dscript_ast.specs.TypeTree as tree
use Rattle.dscript_ast.specs.TypeTree.{MemberTrees}
use Rattle.dscript_program.specs.ProgramData.{ProgramData}
use Rattle.dscript_types_meaning.specs.Annotations.{fields_after, lists_of, meant}
use Rattle.dscript_types_meaning.specs.Codes.{field_cmp}
use Rattle.dscript_types_meaning.specs.Contexts.{Context, Known}
use Rattle.dscript_types_meaning.specs.Objects.{put_field}
use Rattle.dscript_types_meaning.specs.Sizes.{fields_nodes, member_nodes, type_nodes, within_limit}
use Rattle.dscript_types_meaning.specs.Types.{FieldData, MemberData, TypeData, Union, Values, Lists, Objects, more_members, no_members, object_type, to_fields}
use Rattle.dscript_types_meaning.specs.declared.limits.TheConstants.{MAX_TYPE_NODES}
use Rattle.dscript_types_notes.specs.Means.{object_after}

pub over_limit : (t : TypeData) → MAX_TYPE_NODES < type_nodes t → within_limit t ≡ None
over_limit t l = grind (arith, nat_tests)

-- ## Lists of lists

lists_large : (n : ℕ) (t : TypeData) → n ≤ type_nodes (lists_of n t)
unfolding type_nodes
lists_large zero t = omega arith
lists_large (suc n) t = omega (arith, lists_large n t)

pub too_many_lists
    : (n : ℕ) (o : Option TypeData) → MAX_TYPE_NODES < n → option_and_then (λ (t : TypeData). within_limit (lists_of n t)) o ≡ None
too_many_lists n None l = refl
too_many_lists n (Some t) l = over_limit (lists_of n t) (omega (arith, lists_large n t))

-- ## Objects

member_some : (m : MemberData) → 1 ≤ member_nodes m
unfolding member_nodes
member_some (Values kind) = omega arith
member_some (Lists item) = omega arith
member_some (Objects fields) = omega arith

type_some : (t : TypeData) → 1 ≤ type_nodes t
unfolding type_nodes
type_some (Union no_members) = omega arith
type_some (Union (more_members m no_members)) = omega (arith, member_some m)
type_some (Union (more_members m (more_members n more))) = omega arith

fields_some : (fs : List FieldData) → length fs ≤ fields_nodes (to_fields fs)
unfolding fields_nodes
fields_some [] = omega arith
fields_some (f ∷ fs) = omega (arith, type_some f.type_data, fields_some fs)

pub object_large : (fs : List FieldData) → length fs ≤ type_nodes (object_type fs)
unfolding type_nodes
object_large fs = omega (arith, fields_some fs)

pub put_longer : (fs : List FieldData) (f : FieldData) → length fs ≤ length (put_field fs f)
put_longer [] f = omega arith
put_longer (g ∷ fs) f =
    elim (field_cmp f g) as (λ (o : Ordering). suc (length fs) ≤ length (match_ordering o (f ∷ g ∷ fs) (f ∷ fs) (g ∷ put_field fs f))) [
      | Less ↦ omega arith
      | Equal ↦ omega arith
      | Greater ↦ omega (arith, put_longer fs f)
    ]

module _ (p : ProgramData) (known : Known) (c : Context) where
  after_one
      : (name : List ℕ) (optional : Bool) (more : MemberTrees) (done fs : List FieldData) (o : Option TypeData)
      → ((new : List FieldData) → fields_after p known c more new ≡ Some fs → length new ≤ length fs)
      → option_and_then (λ (u : TypeData). fields_after p known c more (put_field done (record { name = name; optional = optional; type_data = u }))) o
      ≡ Some fs
      → length done ≤ length fs
  after_one name optional more done fs None further e = cc
  after_one name optional more done fs (Some u) further e =
      let f : FieldData = record { name = name; optional = optional; type_data = u } in
      omega (arith, put_longer done f, further (put_field done f) e)

  after_longer : (members : MemberTrees) (done fs : List FieldData) → fields_after p known c members done ≡ Some fs → length done ≤ length fs
  unfolding fields_after
  after_longer tree.no_members done fs e =
      let same : done ≡ fs = cc in
      omega (arith, ap (λ (xs : List FieldData). length xs) same)
  after_longer (tree.more_members (tree.Property name optional t) more) done fs e =
      after_one name optional more done fs (meant p known c t) (λ new h. after_longer more new fs h) e
  after_longer (tree.more_members (tree.Method name optional parameters t) more) done fs e = cc

  too_large_after : (done : List FieldData) (o : Option (List FieldData)) → MAX_TYPE_NODES < length done
      → ((fs : List FieldData) → o ≡ Some fs → length done ≤ length fs)
      → option_and_then (λ (fs : List FieldData). within_limit (object_type fs)) o ≡ None
  too_large_after done None l longer = refl
  too_large_after done (Some fs) l longer = over_limit (object_type fs) (omega (arith, longer fs refl, object_large fs))

  pub too_many_fields : (members : MemberTrees) (done : List FieldData) → MAX_TYPE_NODES < length done
      → object_after p known c members done ≡ None
  too_many_fields members done l =
      too_large_after done (fields_after p known c members done) l (λ fs e. after_longer members done fs e)
