-- Values of unions.
use Rattle.std.proofs.Common.{◌≡◌, ℕ, Bool, true, false, not, ◌⊎◌, List, [], ◌∷◌, ◌++◌, Option, Some, None, refl, sym, ap, ◌∙◌, subst, inl, inr}
use Rattle.std.specs.BTreeSet.{insert_key}
use Rattle.std.specs.List.{AllByRecursion, Contains, filter, filter_map, flat_map}
use Rattle.std.specs.Ordering.{match_ordering}
use Rattle.std.specs.declared.cmp.Ordering.{Ordering}
use Rattle.std.specs.declared.cmp.Ordering.TheVariants.{Less, Equal, Greater}
use Rattle.std.proofs.lemmas.Map.Lookups.{exact_bytes}
use Rattle.dscript_value.specs.Plain as plain
use Rattle.dscript_value.specs.Plain.{Plain, Items, End, More, item_list}
use Rattle.dscript_types_meaning.specs.declared.kind.Kind.TheVariants as kinds
use Rattle.dscript_types_meaning.specs.Types.{TypeData, MemberData, Values, Lists, Objects, member_list}
use Rattle.dscript_types_meaning.specs.Types.{list_type, members_of, to_members}
use Rattle.dscript_types_meaning.specs.Codes.{member_cmp, member_code}
use Rattle.dscript_types_meaning.specs.Unions.{if_optional, is_list, is_list_type, is_undefined, item_of, items_of}
use Rattle.dscript_types_meaning.specs.Unions.{join, join_all, set_of, undefined_type, union_of, with_undefined}
use Rattle.dscript_types_meaning.specs.Unions.{without_undefined}
use Rattle.dscript_types_meaning.specs.Values.{AreItems, HasType, IsOf}
use Rattle.dscript_types_values.proofs.Among.{Among, all_among, among_either, among_filter, among_filter_map, among_flat, among_left}
use Rattle.dscript_types_values.proofs.Among.{among_of, among_right, contains_of, filter_among, filter_map_among, flat_among}
use Rattle.dscript_types_values.proofs.Coding.{one_member}
use Rattle.dscript_types_values.proofs.KindForms.{are_items, kind_is, list_is}

-- ## Members of sets

members_equal : (m n : MemberData) → member_cmp m n ≡ Equal → m ≡ n
unfolding member_cmp
members_equal m n e = one_member m n (exact_bytes (member_code m) (member_code n) e)

put_case
    : (m x : MemberData) (xs : List MemberData) (o : Ordering) → member_cmp m x ≡ o
    → Among (insert_key member_cmp xs m) m
    → Among (match_ordering o (m ∷ x ∷ xs) (x ∷ xs) (x ∷ insert_key member_cmp xs m)) m
put_case m x xs Less is more = inl refl
put_case m x xs Equal is more = inl (sym (members_equal m x is))
put_case m x xs Greater is more = inr more

put_there : (xs : List MemberData) (m : MemberData) → Among (insert_key member_cmp xs m) m
put_there [] m = inl refl
put_there (x ∷ xs) m = put_case m x xs (member_cmp m x) refl (put_there xs m)

kept_case
    : (m x : MemberData) (xs : List MemberData) (n : MemberData) (o : Ordering) → Among (x ∷ xs) n
    → (Among xs n → Among (insert_key member_cmp xs m) n)
    → Among (match_ordering o (m ∷ x ∷ xs) (x ∷ xs) (x ∷ insert_key member_cmp xs m)) n
kept_case m x xs n Less a more = inr a
kept_case m x xs n Equal a more = a
kept_case m x xs n Greater (inl is) more = inl is
kept_case m x xs n Greater (inr a) more = inr (more a)

put_kept : (xs : List MemberData) (m n : MemberData) → Among xs n → Among (insert_key member_cmp xs m) n
put_kept [] m n a = absurd a
put_kept (x ∷ xs) m n a = kept_case m x xs n (member_cmp m x) a (put_kept xs m n)

from_case
    : (m x : MemberData) (xs : List MemberData) (n : MemberData) (o : Ordering)
    → (Among (insert_key member_cmp xs m) n → (m ≡ n) ⊎ Among xs n)
    → Among (match_ordering o (m ∷ x ∷ xs) (x ∷ xs) (x ∷ insert_key member_cmp xs m)) n
    → (m ≡ n) ⊎ Among (x ∷ xs) n
from_case m x xs n Less more (inl is) = inl is
from_case m x xs n Less more (inr a) = inr a
from_case m x xs n Equal more a = inr a
from_case m x xs n Greater more (inl is) = inr (inl is)
from_case m x xs n Greater more (inr a) = onward (more a)
  where
    onward : (m ≡ n) ⊎ Among xs n → (m ≡ n) ⊎ Among (x ∷ xs) n
    onward (inl is) = inl is
    onward (inr b) = inr (inr b)

put_from
    : (xs : List MemberData) (m n : MemberData) → Among (insert_key member_cmp xs m) n → (m ≡ n) ⊎ Among xs n
put_from [] m n (inl is) = inl is
put_from [] m n (inr a) = absurd a
put_from (x ∷ xs) m n a = from_case m x xs n (member_cmp m x) (put_from xs m n) a

pub among_set : (ms : List MemberData) (n : MemberData) → Among ms n → Among (set_of ms) n
among_set [] n a = absurd a
among_set (m ∷ ms) n (inl is) = subst (λ k. Among (insert_key member_cmp (set_of ms) m) k) is (put_there (set_of ms) m)
among_set (m ∷ ms) n (inr a) = put_kept (set_of ms) m n (among_set ms n a)

set_case
    : (m n : MemberData) (ms : List MemberData) → (Among (set_of ms) n → Among ms n) → (m ≡ n) ⊎ Among (set_of ms) n
    → Among (m ∷ ms) n
set_case m n ms more (inl is) = inl is
set_case m n ms more (inr b) = inr (more b)

pub set_among : (ms : List MemberData) (n : MemberData) → Among (set_of ms) n → Among ms n
set_among [] n a = a
set_among (m ∷ ms) n a = set_case m n ms (set_among ms n) (put_from (set_of ms) m n a)

-- ## Values of members

-- the value is of one of these members
abbrev pub IsAmong : Plain → List MemberData → Type 0
IsAmong x ms = (m : MemberData) × Among ms m × IsOf x m

pub has_of : (x : Plain) (t : TypeData) → IsAmong x (members_of t) → HasType x t
unfolding HasType
has_of x t h = (h.0, contains_of (members_of t) h.0 h.1, h.2)

pub of_has : (x : Plain) (t : TypeData) → HasType x t → IsAmong x (members_of t)
unfolding HasType
of_has x t h = (h.0, among_of (members_of t) h.0 h.1, h.2)

rows_again : (ms : List MemberData) → member_list (to_members ms) ≡ ms
rows_again [] = refl
rows_again (m ∷ ms) = ap (λ ns. m ∷ ns) (rows_again ms)

union_members : (ms : List MemberData) → members_of (union_of ms) ≡ set_of ms
unfolding union_of
union_members ms = rows_again (set_of ms)

pub has_union : (x : Plain) (ms : List MemberData) → IsAmong x ms → HasType x (union_of ms)
has_union x ms h =
    has_of x (union_of ms)
    (h.0, subst (λ ns. Among ns h.0) (sym (union_members ms)) (among_set ms h.0 h.1), h.2)

pub union_has : (x : Plain) (ms : List MemberData) → HasType x (union_of ms) → IsAmong x ms
union_has x ms h =
    let r = of_has x (union_of ms) h in
    (r.0, set_among ms r.0 (subst (λ ns. Among ns r.0) (union_members ms) r.1), r.2)

-- ## Joins

pub has_left : (x : Plain) (t u : TypeData) → HasType x t → HasType x (join t u)
has_left x t u h =
    let r = of_has x t h in
    has_union x (members_of t ++ members_of u) (r.0, among_left (members_of t) (members_of u) r.0 r.1, r.2)

pub has_right : (x : Plain) (t u : TypeData) → HasType x u → HasType x (join t u)
has_right x t u h =
    let r = of_has x u h in
    has_union x (members_of t ++ members_of u) (r.0, among_right (members_of t) (members_of u) r.0 r.1, r.2)

pub join_has : (x : Plain) (t u : TypeData) → HasType x (join t u) → HasType x t ⊎ HasType x u
join_has x t u h = onward (among_either (members_of t) (members_of u) r.0 r.1)
  where
    r : IsAmong x (members_of t ++ members_of u)
    r = union_has x (members_of t ++ members_of u) h

    onward : Among (members_of t) r.0 ⊎ Among (members_of u) r.0 → HasType x t ⊎ HasType x u
    onward (inl a) = inl (has_of x t (r.0, a, r.2))
    onward (inr a) = inr (has_of x u (r.0, a, r.2))

pub has_one_of : (x : Plain) (ts : List TypeData) (t : TypeData) → Among ts t → HasType x t → HasType x (join_all ts)
has_one_of x ts t a h =
    let r = of_has x t h in
    has_union x (flat_map members_of ts) (r.0, among_flat members_of ts t r.0 a r.1, r.2)

pub one_of_has : (x : Plain) (ts : List TypeData) → HasType x (join_all ts) → (t : TypeData) × Among ts t × HasType x t
one_of_has x ts h =
    let r = union_has x (flat_map members_of ts) h in
    let q = flat_among members_of ts r.0 r.1 in
    (q.0, q.1, has_of x q.0 (r.0, q.2, r.2))

-- ## Undefined

undefined_kind : (m : MemberData) → is_undefined m ≡ true → m ≡ Values kinds.Undefined
undefined_kind (Values kinds.Undefined) e = refl
undefined_kind (Values kinds.Boolean) e = absurd cc
undefined_kind (Values kinds.Number) e = absurd cc
undefined_kind (Values kinds.String) e = absurd cc
undefined_kind (Values kinds.Path) e = absurd cc
undefined_kind (Values kinds.File) e = absurd cc
undefined_kind (Values kinds.Directory) e = absurd cc
undefined_kind (Values kinds.RelativePath) e = absurd cc
undefined_kind (Values kinds.PathAtom) e = absurd cc
undefined_kind (Values kinds.Seal) e = absurd cc
undefined_kind (Values kinds.Opaque) e = absurd cc
undefined_kind (Values kinds.Process) e = absurd cc
undefined_kind (Values kinds.Artifact) e = absurd cc
undefined_kind (Values kinds.Argument) e = absurd cc
undefined_kind (Lists t) e = absurd cc
undefined_kind (Objects fs) e = absurd cc

pub undefined_itself : HasType plain.Undefined undefined_type
unfolding IsOf
undefined_itself = has_of plain.Undefined undefined_type (Values kinds.Undefined, inl refl, refl)

pub has_undefined : (t : TypeData) → HasType plain.Undefined (with_undefined t)
has_undefined t = has_right plain.Undefined t undefined_type undefined_itself

pub has_with_undefined : (x : Plain) (t : TypeData) → HasType x t → HasType x (with_undefined t)
has_with_undefined x t h = has_left x t undefined_type h

pub has_if_optional : (x : Plain) (optional : Bool) (t : TypeData) → HasType x t → HasType x (if_optional optional t)
has_if_optional x false t h = h
has_if_optional x true t h = has_with_undefined x t h

-- what is not undefined is of the type without it
without_case
    : (x : Plain) (t : TypeData) (m : MemberData) (b : Bool) → is_undefined m ≡ b → (x ≡ plain.Undefined → ⊥)
    → Among (members_of t) m → IsOf x m → HasType x (without_undefined t)
without_case x t m false is other a h =
    has_union x (filter (λ n. not (is_undefined n)) (members_of t))
    (m, among_filter (λ n. not (is_undefined n)) (members_of t) m a (ap not is), h)
without_case x t m true is other a h =
    absurd (other (kind_is x kinds.Undefined (subst (λ n. IsOf x n) (undefined_kind m is) h)))

pub has_without : (x : Plain) (t : TypeData) → (x ≡ plain.Undefined → ⊥) → HasType x t → HasType x (without_undefined t)
has_without x t other h =
    let r = of_has x t h in without_case x t r.0 (is_undefined r.0) refl other r.1 r.2

pub without_has : (x : Plain) (t : TypeData) → HasType x (without_undefined t) → HasType x t
without_has x t h =
    let r = union_has x (filter (λ n. not (is_undefined n)) (members_of t)) h in
    has_of x t (r.0, filter_among (λ n. not (is_undefined n)) (members_of t) r.0 r.1, r.2)

-- ## Lists

list_member : (m : MemberData) → is_list m ≡ true → (item : TypeData) × (m ≡ Lists item)
list_member (Values k) e = absurd cc
list_member (Lists item) e = (item, refl)
list_member (Objects fs) e = absurd cc

-- each item of a list that is of a type is of the type of its items
pub items_have
    : (xs : Items) (t item : TypeData) → Among (members_of t) (Lists item) → AreItems xs item
    → AllByRecursion (λ x. HasType x (items_of t)) (item_list xs)
unfolding AreItems
items_have End t item a h = tt
items_have (More x xs) t item a h = (
  has_one_of x (filter_map item_of (members_of t)) item
      (among_filter_map item_of (members_of t) (Lists item) item a refl) (has_of x item (item_again h.0)),
  items_have xs t item a h.1,
)
  where
    item_again : ((m : MemberData) × Contains (members_of item) m × IsOf x m) → IsAmong x (members_of item)
    item_again h = (h.0, among_of (members_of item) h.0 h.1, h.2)

-- a value of a type of lists is a list, whose items are of the type of its items
pub list_has
    : (x : Plain) (t : TypeData) → is_list_type t ≡ true → HasType x t
    → (depth : ℕ) × (xs : Items) × (x ≡ plain.Listed depth xs)
    × AllByRecursion (λ y. HasType y (items_of t)) (item_list xs)
list_has x t e h =
    let r = of_has x t h in
    let m = list_member r.0 (all_among is_list (members_of t) r.0 e r.1) in
    let l = list_is x m.0 (subst (λ n. IsOf x n) m.1 r.2) in
    (l.0, l.1, l.2, items_have l.1 t m.0 (subst (λ n. Among (members_of t) n) m.1 r.1) l.3)

-- a list of such items
pub listed_has
    : (depth : ℕ) (xs : Items) (item : TypeData) → AllByRecursion (λ x. HasType x item) (item_list xs)
    → HasType (plain.Listed depth xs) (list_type item)
unfolding IsOf
listed_has depth xs item h =
    has_of (plain.Listed depth xs) (list_type item) (Lists item, inl refl, (item, refl, are_items xs item h))
