-- The order of codes is that of their parts.
use Rattle.std.proofs.Common.{◌≡◌, ℕ, Bool, true, false, List, [], ◌∷◌, ◌++◌, length, refl, ap, sym, ◌∙◌, append-nil, append_assoc}
use Rattle.std.specs.Cmp.Lexicographic.{slice_cmp}
use Rattle.std.specs.Ordering.{bool_cmp, nat_cmp, ordering_then}
use Rattle.std.specs.declared.cmp.Ordering.{Ordering}
use Rattle.std.specs.declared.cmp.Ordering.TheVariants.{Less, Equal, Greater}
use Rattle.bx_tree.specs.Orders.{equal_texts}
use Rattle.dscript_types_data.specs.Orders.{field_order, name_order, types_order}
use Rattle.dscript_types_meaning.specs.declared.kind.Kind.{Kind}
use Rattle.dscript_types_meaning.specs.Codes.{fields_code, flag_number, kind_number, member_cmp, member_code, members_code}
use Rattle.dscript_types_meaning.specs.Codes.{type_code}
use Rattle.dscript_types_meaning.specs.Types.{FieldData, FieldRow, MemberData, MemberRow, TypeData, Lists, Objects, Union}
use Rattle.dscript_types_meaning.specs.Types.{Values, field_list, member_list, no_fields, more_fields}
use Rattle.dscript_types_meaning.specs.Types.{no_members, more_members, to_fields}
use Rattle.dscript_types_data.proofs.Rows.{fields_again}
use Rattle.dscript_types_values.proofs.Coding.{member_apart}

-- ## Orderings

pub then_equal : (o : Ordering) → ordering_then o Equal ≡ o
then_equal Less = refl
then_equal Equal = refl
then_equal Greater = refl

then_assoc : (o p q : Ordering) → ordering_then (ordering_then o p) q ≡ ordering_then o (ordering_then p q)
then_assoc Less p q = refl
then_assoc Equal p q = refl
then_assoc Greater p q = refl

-- numbers that compare as equal are equal
same_number : (x y : ℕ) → nat_cmp x y ≡ Equal → x ≡ y
same_number x y e =
    let whole : x ∷ [] ≡ y ∷ [] = equal_texts (x ∷ []) (y ∷ []) (ap (λ o. ordering_then o Equal) e) in cc

-- ## Lists of numbers

-- neither list is the beginning of the other, unless they are equal
abbrev AreFree : List ℕ → List ℕ → Type 0
AreFree [] [] = Unit {0}
AreFree [] (y ∷ ys) = ⊥
AreFree (x ∷ xs) [] = ⊥
AreFree (x ∷ xs) (y ∷ ys) = x ≡ y → AreFree xs ys

free_of : (xs ys : List ℕ) → ((a b : List ℕ) → xs ++ a ≡ ys ++ b → xs ≡ ys) → AreFree xs ys
free_of [] [] h = tt
free_of [] (y ∷ ys) h = let e : [] ≡ y ∷ ys = h (y ∷ ys) [] (sym (append-nil (y ∷ ys))) in absurd cc
free_of (x ∷ xs) [] h = let e : x ∷ xs ≡ [] = h [] (x ∷ xs) (append-nil (x ∷ xs)) in absurd cc
free_of (x ∷ xs) (y ∷ ys) h =
    λ e. free_of xs ys (λ a b same. let whole : x ∷ xs ≡ y ∷ ys = h a b cc in cc)

free_of_length : (xs ys : List ℕ) → length xs ≡ length ys → AreFree xs ys
free_of_length [] [] e = tt
free_of_length [] (y ∷ ys) e = absurd cc
free_of_length (x ∷ xs) [] e = absurd cc
free_of_length (x ∷ xs) (y ∷ ys) e = λ same. free_of_length xs ys cc

after_case
    : (o : Ordering) (x y : ℕ) (p q r : Ordering) → nat_cmp x y ≡ o → (x ≡ y → p ≡ ordering_then q r)
    → ordering_then o p ≡ ordering_then (ordering_then o q) r
after_case Less x y p q r is more = refl
after_case Equal x y p q r is more = more (same_number x y is)
after_case Greater x y p q r is more = refl

cmp_after
    : (xs ys a b : List ℕ) → AreFree xs ys
    → slice_cmp nat_cmp (xs ++ a) (ys ++ b) ≡ ordering_then (slice_cmp nat_cmp xs ys) (slice_cmp nat_cmp a b)
cmp_after [] [] a b h = refl
cmp_after [] (y ∷ ys) a b h = absurd h
cmp_after (x ∷ xs) [] a b h = absurd h
cmp_after (x ∷ xs) (y ∷ ys) a b h =
    after_case (nat_cmp x y) x y (slice_cmp nat_cmp (xs ++ a) (ys ++ b)) (slice_cmp nat_cmp xs ys) (slice_cmp nat_cmp a b) refl
    (λ e. cmp_after xs ys a b (h e))

-- ## Members and types

member_after
    : (m n : MemberData) (a b : List ℕ)
    → slice_cmp nat_cmp (member_code m ++ a) (member_code n ++ b) ≡ ordering_then (member_cmp m n) (slice_cmp nat_cmp a b)
unfolding member_cmp
member_after m n a b =
    cmp_after (member_code m) (member_code n) a b
    (free_of (member_code m) (member_code n) (λ x y e. ap member_code (member_apart m n x y e).0))

rows_as
    : (ms ns : MemberRow)
    → slice_cmp nat_cmp (members_code ms) (members_code ns) ≡ slice_cmp member_cmp (member_list ms) (member_list ns)
unfolding members_code
rows_as no_members no_members = refl
rows_as no_members (more_members n ns) = refl
rows_as (more_members m ms) no_members = refl
rows_as (more_members m ms) (more_members n ns) =
    member_after m n (members_code ms) (members_code ns) ∙ ap (λ o. ordering_then (member_cmp m n) o) (rows_as ms ns)

pub types_as : (t u : TypeData) → slice_cmp nat_cmp (type_code t) (type_code u) ≡ types_order t u
unfolding type_code
types_as (Union ms) (Union ns) = rows_as ms ns

type_after
    : (t u : TypeData) (a b : List ℕ)
    → slice_cmp nat_cmp (type_code t ++ a) (type_code u ++ b) ≡ ordering_then (types_order t u) (slice_cmp nat_cmp a b)
unfolding member_code member_cmp
type_after t u a b =
    member_after (Lists t) (Lists u) a b ∙ ap (λ o. ordering_then o (slice_cmp nat_cmp a b)) (types_as t u)

-- ## Fields

flags_as : (a b : Bool) → nat_cmp (flag_number a) (flag_number b) ≡ bool_cmp a b
flags_as false false = refl
flags_as false true = refl
flags_as true false = refl
flags_as true true = refl

-- what comes after the lengths of two names
names_case
    : (o : Ordering) (x y a b : List ℕ) (r : Ordering) → nat_cmp (length x) (length y) ≡ o → slice_cmp nat_cmp a b ≡ r
    → ordering_then o (slice_cmp nat_cmp (x ++ a) (y ++ b)) ≡ ordering_then (ordering_then o (slice_cmp nat_cmp x y)) r
names_case Less x y a b r is e = refl
names_case Equal x y a b r is e =
    cmp_after x y a b (free_of_length x y (same_number (length x) (length y) is))
    ∙ ap (λ p. ordering_then (slice_cmp nat_cmp x y) p) e
names_case Greater x y a b r is e = refl

pub fields_as
    : (fs gs : FieldRow)
    → slice_cmp nat_cmp (fields_code fs) (fields_code gs) ≡ slice_cmp field_order (field_list fs) (field_list gs)
unfolding fields_code
fields_as no_fields no_fields = refl
fields_as no_fields (more_fields y p u gs) = refl
fields_as (more_fields x o t fs) no_fields = refl
fields_as (more_fields x o t fs) (more_fields y p u gs) =
    let rest : slice_cmp nat_cmp (fields_code fs) (fields_code gs) ≡ slice_cmp field_order (field_list fs) (field_list gs)
    = fields_as fs gs in
    let types = type_after t u (fields_code fs) (fields_code gs) ∙ ap (λ q. ordering_then (types_order t u) q) rest in
    let more = ap (λ q. ordering_then q (slice_cmp nat_cmp (type_code t ++ fields_code fs) (type_code u ++ fields_code gs))) (flags_as o p)
    ∙ ap (λ q. ordering_then (bool_cmp o p) q) types in
    ap (λ a. ordering_then (nat_cmp (length x) (length y)) (slice_cmp nat_cmp a ((y ++ (flag_number p ∷ type_code u)) ++ fields_code gs)))
    (append_assoc x (flag_number o ∷ type_code t) (fields_code fs))
    ∙ ap (λ b. ordering_then (nat_cmp (length x) (length y)) (slice_cmp nat_cmp (x ++ (flag_number o ∷ type_code t ++ fields_code fs)) b))
    (append_assoc y (flag_number p ∷ type_code u) (fields_code gs))
    ∙ names_case (nat_cmp (length x) (length y)) x y (flag_number o ∷ type_code t ++ fields_code fs)
    (flag_number p ∷ type_code u ++ fields_code gs)
    (ordering_then (bool_cmp o p) (ordering_then (types_order t u) (slice_cmp field_order (field_list fs) (field_list gs)))) refl more
    ∙ sym (then_assoc (name_order x y) (bool_cmp o p) (ordering_then (types_order t u) (slice_cmp field_order (field_list fs) (field_list gs))))
    ∙ sym (then_assoc (ordering_then (name_order x y) (bool_cmp o p)) (types_order t u) (slice_cmp field_order (field_list fs) (field_list gs)))

-- ## The forms of members

pub values_cmp
    : (k l : Kind) (m n : ℕ) (r : Ordering) → m ≡ kind_number k → n ≡ kind_number l → r ≡ nat_cmp m n
    → r ≡ member_cmp (Values k) (Values l)
unfolding member_cmp member_code
values_cmp k l m n r e f is =
    is ∙ ap (λ x. nat_cmp x n) e ∙ ap (λ y. nat_cmp (kind_number k) y) f
    ∙ sym (then_equal (nat_cmp (kind_number k) (kind_number l)))

pub lists_cmp : (t u : TypeData) (r : Ordering) → r ≡ types_order t u → r ≡ member_cmp (Lists t) (Lists u)
unfolding member_cmp member_code
lists_cmp t u r e = e ∙ sym (types_as t u)

pub objects_cmp
    : (fs gs : List FieldData) (xs ys : List FieldData) (r : Ordering) → xs ≡ fs → ys ≡ gs → r ≡ slice_cmp field_order xs ys
    → r ≡ member_cmp (Objects (to_fields fs)) (Objects (to_fields gs))
unfolding member_cmp member_code
objects_cmp fs gs xs ys r e f is =
    is ∙ ap (λ x. slice_cmp field_order x ys) (e ∙ sym (fields_again fs))
    ∙ ap (λ y. slice_cmp field_order (field_list (to_fields fs)) y) (f ∙ sym (fields_again gs))
    ∙ sym (fields_as (to_fields fs) (to_fields gs))

pub values_lists : (k : Kind) (t : TypeData) → Less ≡ member_cmp (Values k) (Lists t)
unfolding member_cmp member_code
values_lists k t = refl

pub values_objects : (k : Kind) (fs : FieldRow) → Less ≡ member_cmp (Values k) (Objects fs)
unfolding member_cmp member_code
values_objects k fs = refl

pub lists_objects : (t : TypeData) (fs : FieldRow) → Less ≡ member_cmp (Lists t) (Objects fs)
unfolding member_cmp member_code
lists_objects t fs = refl

pub lists_values : (t : TypeData) (k : Kind) → Greater ≡ member_cmp (Lists t) (Values k)
unfolding member_cmp member_code
lists_values t k = refl

pub objects_values : (fs : FieldRow) (k : Kind) → Greater ≡ member_cmp (Objects fs) (Values k)
unfolding member_cmp member_code
objects_values fs k = refl

pub objects_lists : (fs : FieldRow) (t : TypeData) → Greater ≡ member_cmp (Objects fs) (Lists t)
unfolding member_cmp member_code
objects_lists fs t = refl
