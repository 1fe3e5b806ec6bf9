-- Unions of types that have one member at most.
use Rattle.std.proofs.Common.{◌≡◌, ◌≤◌, true, false, List, [], ◌∷◌, ◌++◌, append-nil, append_assoc, length, map, refl, ap, sym, ◌∙◌, arith}
use Rattle.std.proofs.lemmas.List.{length-map}
use Rattle.bx_tree.proofs.Lists.{none_left}
use Rattle.std.specs.BTreeSet.{insert_key}
use Rattle.std.specs.List.{filter_map, flat_map}
use Rattle.std.specs.Ordering.{is_eq, match_ordering}
use Rattle.std.specs.declared.cmp.Ordering.{Ordering}
use Rattle.std.specs.declared.cmp.Ordering.TheVariants.{Less, Equal, Greater}
use Rattle.dscript_types_data.proofs.Rows.{members_again, rows_again}
use Rattle.dscript_types_data.specs.declared.types.Member.{Member}
use Rattle.dscript_types_data.specs.declared.types.Member.TheVariants as members
use Rattle.dscript_types_data.specs.Views.{IsFew, member_data}
use Rattle.dscript_types_meaning.specs.Codes.{member_cmp}
use Rattle.dscript_types_meaning.specs.Types.{MemberData, TypeData, Union, member_list, members_of, to_members}
use Rattle.dscript_types_meaning.specs.Unions.{item_of, items_of, join, join_all, set_of, union_of}

-- one member at most is in its order
few_set : (ms : List MemberData) → length ms ≤ 1 → set_of ms ≡ ms
few_set [] l = refl
few_set (m ∷ []) l = refl
few_set (m ∷ n ∷ ms) l = absurd (omega (arith, l))

pub few_type : (t : TypeData) → IsFew t → union_of (members_of t) ≡ t
unfolding union_of
few_type (Union row) l = ap (λ ms. Union (to_members ms)) (few_set (member_list row) l) ∙ ap Union (rows_again row)

-- as contracts see it
pub seen_few : (ms : List Member) (t : TypeData) → map member_data ms ≡ members_of t → length ms ≤ 1 → IsFew t
seen_few ms t e l = omega (arith, l, ap (λ (ns : List MemberData). length ns) e, length-map ms member_data)

-- of two equal members the other stays
equal_pair : (m n : MemberData) → member_cmp m n ≡ Equal → set_of (m ∷ n ∷ []) ≡ n ∷ []
equal_pair m n e = ap (λ o. match_ordering o (m ∷ n ∷ []) (n ∷ []) (n ∷ insert_key member_cmp [] m)) e

pub are_equal : (o : Ordering) → is_eq o ≡ true → o ≡ Equal
are_equal Less e = let fails : false ≡ true = e in absurd cc
are_equal Equal e = refl
are_equal Greater e = let fails : false ≡ true = e in absurd cc

-- ## Two types

module _ (a b : TypeData) (left right : List Member) (is_left : map member_data left ≡ members_of a)
    (is_right : map member_data right ≡ members_of b) where
  pub none_before : length left ≡ 0 → IsFew b → b ≡ join a b
  none_before none few =
      sym (few_type b few)
      ∙ ap (λ ms. union_of (ms ++ members_of b)) (sym (ap (map member_data) (none_left left none)) ∙ is_left)

  pub none_behind : length right ≡ 0 → IsFew a → a ≡ join a b
  none_behind none few =
      sym (few_type a few) ∙ ap union_of (sym (append-nil (members_of a)))
      ∙ ap (λ ms. union_of (members_of a ++ ms)) (sym (ap (map member_data) (none_left right none)) ∙ is_right)

  one_of : (xs rest : List Member) (x : Member) → xs ≡ x ∷ rest → length xs ≤ 1 → xs ≡ x ∷ []
  one_of xs rest x e l =
      let size : length xs ≡ length (x ∷ rest) = ap (λ (ys : List Member). length ys) e in
      e ∙ ap (λ ys. x ∷ ys) (none_left rest (omega (arith, size, l)))

  pub both_alike
      : (x y : Member) (more others : List Member) → left ≡ x ∷ more → right ≡ y ∷ others → length left ≤ 1 → length right ≤ 1
      → member_cmp (member_data x) (member_data y) ≡ Equal → b ≡ join a b
  unfolding union_of
  both_alike x y more others e f l r same =
      sym (few_type b (seen_few right b is_right r)) ∙ ap (λ ms. Union (to_members (set_of ms))) (sym second)
      ∙ ap (λ ms. Union (to_members ms)) (sym (equal_pair (member_data x) (member_data y) same))
      ∙ ap (λ ms. Union (to_members (set_of (ms ++ member_data y ∷ [])))) first
      ∙ ap (λ ms. Union (to_members (set_of (members_of a ++ ms)))) second
    where
      first : member_data x ∷ [] ≡ members_of a
      first = sym (ap (map member_data) (one_of left more x e l)) ∙ is_left

      second : member_data y ∷ [] ≡ members_of b
      second = sym (ap (map member_data) (one_of right others y f r)) ∙ is_right

-- ## Any number of types

set_before : (xs ys zs : List MemberData) → set_of ys ≡ set_of zs → set_of (xs ++ ys) ≡ set_of (xs ++ zs)
set_before [] ys zs e = e
set_before (x ∷ xs) ys zs e = ap (λ s. insert_key member_cmp s x) (set_before xs ys zs e)

abbrev pub AllGo : List TypeData → TypeData → List TypeData → Type 0
AllGo left done types = set_of (flat_map members_of left ++ members_of done) ≡ set_of (flat_map members_of types)

all_last : (ts : List TypeData) (t : TypeData) → flat_map members_of (ts ++ t ∷ []) ≡ flat_map members_of ts ++ members_of t
all_last [] t = append-nil (members_of t)
all_last (u ∷ ts) t =
    ap (λ ms. members_of u ++ ms) (all_last ts t) ∙ sym (append_assoc (members_of u) (flat_map members_of ts) (members_of t))

pub all_begin : (types others : List TypeData) (last : TypeData) → types ≡ others ++ last ∷ [] → AllGo others last types
all_begin types others last split = ap set_of (sym (all_last others last) ∙ ap (flat_map members_of) (sym split))

pub all_go
    : (left before types : List TypeData) (t done u : TypeData) → left ≡ before ++ t ∷ [] → IsFew u → u ≡ join t done
    → AllGo left done types → AllGo before u types
unfolding union_of
all_go left before types t done u split few is kept =
    set_before (flat_map members_of before) (members_of u) (members_of t ++ members_of done)
    (few_set (members_of u) few ∙ ap members_of is ∙ members_again (set_of (members_of t ++ members_of done)))
    ∙ ap set_of (sym (append_assoc (flat_map members_of before) (members_of t) (members_of done)))
    ∙ ap (λ ms. set_of (ms ++ members_of done)) (sym (all_last before t) ∙ ap (flat_map members_of) (sym split))
    ∙ kept

pub all_end
    : (left types : List TypeData) (done : TypeData) → length left ≡ 0 → IsFew done → AllGo left done types → done ≡ join_all types
unfolding union_of
all_end left types done none few kept =
    sym (few_type done few)
    ∙ ap (λ ms. Union (to_members ms)) (ap (λ ts. set_of (flat_map members_of ts ++ members_of done)) (sym (none_left left none)) ∙ kept)

-- ## Items

pub items_alone
    : (t item : TypeData) (ms others : List Member) (m : Member) → map member_data ms ≡ members_of t → ms ≡ m ∷ others
    → length others ≡ 0 → m ≡ members.Lists item → IsFew item → item ≡ items_of t
items_alone t item ms others m is split none list few =
    sym (few_type item few) ∙ ap union_of (sym (append-nil (members_of item)))
    ∙ ap (λ ns. union_of (flat_map members_of (filter_map item_of ns)))
    (sym (ap (λ x. member_data x ∷ []) list) ∙ sym (ap (λ os. map member_data (m ∷ os)) (none_left others none))
    ∙ sym (ap (map member_data) split) ∙ is)
