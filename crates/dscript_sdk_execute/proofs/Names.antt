-- Environment variables of different names.
use Rattle.std.proofs.Common.{◌≡◌, ℕ, ◌+◌, ◌<◌, ◌≤◌, suc, Bool, true, false, cond, not, ◌&&◌, ◌||◌, List, [], ◌∷◌, length, get_or, refl, ap, sym, ◌∙◌, subst, inl, inr, arith}
use Rattle.std.specs.Prelude.{if◌then◌else◌, Ok, Err}
use Rattle.dscript_sdk_values.specs.Outcomes.{Outcome}
use Rattle.dscript_sdk_values.specs.declared.fault.SdkFault.TheVariants.{BadArgument}
use Rattle.std.specs.List.{AllByRecursion, list_any, sum_by}
use Rattle.std.specs.List.Sorted.{IsPermutation, IsStrictlySortedBy}
use Rattle.std.specs.Str.{bytes_eq}
use Rattle.std.specs.Cmp.{IsTotalOrder, both_ways}
use Rattle.std.specs.Cmp.Lexicographic.{slice_cmp}
use Rattle.std.specs.Ordering.{nat_cmp, is_eq, is_lt, ordering_reverse}
use Rattle.std.specs.declared.cmp.Ordering.{Ordering}
use Rattle.std.specs.declared.cmp.Ordering.TheVariants.{Less, Equal, Greater}
use Rattle.std.proofs.lemmas.Bool.{cases_Bool, false≢true, and_parts, not-true}
use Rattle.std.proofs.lemmas.Cmp.{nat_list_cmp_total, on_total}
use Rattle.std.proofs.lemmas.List.Sorted.{Contains-permutation, IsPermutation-sym, ranks_by, sorted_far, sum_by-IsPermutation}
use Rattle.std.proofs.lemmas.List.Sums.{sum_by-cons}
use Rattle.std.proofs.lemmas.Map.Text.{is_eq-slice_cmp}
use Rattle.std.proofs.lemmas.Slice.Eq.{bytes_eq-Decides}
use Rattle.bx_tree.specs.Members.{Has}
use Rattle.pip_model_types.specs.Args.{IsSortedByName}
use Rattle.pip_model_types.specs.declared.args.EnvPair.{EnvPair}
use Rattle.dscript_sdk_execute.specs.ExecuteObject.{has_distinct_names, name_cmp}
use Rattle.dscript_sdk_execute.specs.Sets.{set_by}
use Rattle.dscript_sdk_execute.proofs.Sets.{TiedAreEqual, only_set}

-- whether a variable has a name
abbrev has_name : List ℕ → EnvPair → Bool
has_name n v = bytes_eq n v.name

-- ## How often a name occurs

abbrev times : List ℕ → List EnvPair → ℕ
times n xs = sum_by (λ (v : EnvPair). cond (bytes_eq n v.name) 1 0) xs

counted : (n : List ℕ) (x : EnvPair) (xs : List EnvPair) → times n (x ∷ xs) ≡ cond (bytes_eq n x.name) 1 0 + times n xs
counted n x xs = sum_by-cons (λ (v : EnvPair). cond (bytes_eq n v.name) 1 0) x xs

none_there : (n : List ℕ) (xs : List EnvPair) → list_any (has_name n) xs ≡ false → times n xs ≡ 0
none_there n [] e = refl
none_there n (x ∷ xs) e = elim (cases_Bool (bytes_eq n x.name)) [
  | inl h ↦ absurd (false≢true (sym e ∙ ap (λ b. b || list_any (has_name n) xs) h))
  | inr h ↦
      let rest = none_there n xs (sym (ap (λ b. b || list_any (has_name n) xs) h) ∙ e) in
      let all : times n (x ∷ xs) ≡ 0 + times n xs = counted n x xs ∙ ap (λ b. cond b 1 0 + times n xs) h in
      omega (arith, rest, all)
]

some_there : (n : List ℕ) (xs : List EnvPair) → list_any (has_name n) xs ≡ true → 1 ≤ times n xs
some_there n [] e = absurd (false≢true e)
some_there n (x ∷ xs) e = elim (cases_Bool (bytes_eq n x.name)) [
  | inl h ↦
      let all : times n (x ∷ xs) ≡ 1 + times n xs = counted n x xs ∙ ap (λ b. cond b 1 0 + times n xs) h in
      omega (arith, all)
  | inr h ↦
      let rest = some_there n xs (sym (ap (λ b. b || list_any (has_name n) xs) h) ∙ e) in
      let all : times n (x ∷ xs) ≡ 0 + times n xs = counted n x xs ∙ ap (λ b. cond b 1 0 + times n xs) h in
      omega (arith, all, rest)
]

-- the parts of a distinct list: no later variable has the name of the first, and the rest is distinct
distinct_parts : (x : EnvPair) (xs : List EnvPair) → has_distinct_names (x ∷ xs) ≡ true
    → (list_any (has_name x.name) xs ≡ false) × (has_distinct_names xs ≡ true)
distinct_parts x xs e =
    let parts = and_parts (not (list_any (has_name x.name) xs)) (has_distinct_names xs) e in
    (not-true (list_any (has_name x.name) xs) parts.0, parts.1)

at_most_once : (xs : List EnvPair) → has_distinct_names xs ≡ true → (n : List ℕ) → times n xs ≤ 1
at_most_once [] e n = omega arith
at_most_once (x ∷ xs) e n = elim (cases_Bool (bytes_eq n x.name)) [
  | inl h ↦
      let equal = (bytes_eq-Decides n x.name).0 h in
      let none = none_there x.name xs (distinct_parts x xs e).0 in
      let rest : times n xs ≡ 0 = ap (λ m. times m xs) equal ∙ none in
      let all : times n (x ∷ xs) ≡ 1 + times n xs = counted n x xs ∙ ap (λ b. cond b 1 0 + times n xs) h in
      omega (arith, all, rest)
  | inr h ↦
      let all : times n (x ∷ xs) ≡ 0 + times n xs = counted n x xs ∙ ap (λ b. cond b 1 0 + times n xs) h in
      let rest = at_most_once xs (distinct_parts x xs e).1 n in
      omega (arith, all, rest)
]

no_more : (x : EnvPair) (xs : List EnvPair) (n : List ℕ) → times n (x ∷ xs) ≤ 1 → times n xs ≤ 1
no_more x xs n h = let all = counted n x xs in omega (arith, h, all)

are_distinct : (xs : List EnvPair) → ((n : List ℕ) → times n xs ≤ 1) → has_distinct_names xs ≡ true
are_distinct [] h = refl
are_distinct (x ∷ xs) h =
    let once : times x.name (x ∷ xs) ≡ 1 + times x.name xs =
    counted x.name x xs ∙ ap (λ b. cond b 1 0 + times x.name xs) ((bytes_eq-Decides x.name x.name).1 refl) in
    elim (cases_Bool (list_any (has_name x.name) xs)) [
      | inl e ↦
          let some = some_there x.name xs e in
          let most = h x.name in
          absurd (omega (arith, some, most, once))
      | inr e ↦
          ap (λ b. not b && has_distinct_names xs) e ∙ are_distinct xs (λ n. no_more x xs n (h n))
    ]

-- whether names are distinct does not depend on the order
pub permuted_names : (xs ys : List EnvPair) → IsPermutation xs ys → has_distinct_names ys ≡ has_distinct_names xs
permuted_names xs ys p = both_ways (has_distinct_names ys) (has_distinct_names xs)
    (λ e. are_distinct xs (λ n. subst (λ k. k ≤ 1) (times_in n) (at_most_once ys e n)))
    (λ e. are_distinct ys (λ n. subst (λ k. k ≤ 1) (sym (times_in n)) (at_most_once xs e n)))
  where
    times_in : (n : List ℕ) → times n ys ≡ times n xs
    times_in n = sum_by-IsPermutation (λ (v : EnvPair). cond (bytes_eq n v.name) 1 0) xs ys p

-- ## Sorted by name

from_index : {X : Type 0} (P : X → Type 0) (xs : List X)
    → ((k : ℕ) (d : X) → k < length xs → P (get_or xs k d)) → AllByRecursion P xs
from_index P [] f = tt
from_index P (x ∷ xs) f = (f 0 x (omega arith), from_index P xs (λ k d l. f (suc k) d (omega (arith, l))))

name_total : IsTotalOrder name_cmp
name_total = on_total (λ (v : EnvPair). v.name) nat_list_cmp_total

-- no later variable has a lesser name
not_below : (x : EnvPair) (xs : List EnvPair) → IsSortedByName (x ∷ xs)
    → AllByRecursion (λ y. is_lt (name_cmp y x) ≡ false) xs
not_below x xs h = from_index (λ y. is_lt (name_cmp y x) ≡ false) xs
    (λ k d l. sorted_far _ (ranks_by nat_list_cmp_total (λ (v : EnvPair). v.name)) (x ∷ xs) h 0 (suc k) d (omega arith) (omega (arith, l)))

pub sorted_rest : (x : EnvPair) (xs : List EnvPair) → IsSortedByName (x ∷ xs) → IsSortedByName xs
sorted_rest x xs h = λ k d a b.
    let at : ℕ → Type 0 = λ n. is_lt (slice_cmp nat_cmp (get_or (x ∷ xs) n d).name (get_or xs k d).name) ≡ false in
    let next : suc k + 1 ≡ suc (k + 1) = omega arith in
    subst at next (h (suc k) d (omega arith) (omega (arith, b)))

greater : (o : Ordering) → is_lt (ordering_reverse o) ≡ false → is_eq o ≡ false → o ≡ Less
greater Less e f = refl
greater Equal e f = absurd (false≢true (sym f))
greater Greater e f = absurd (false≢true (sym e))

-- a variable that is not below another, and has another name, is above it
above : (x y : EnvPair) → is_lt (name_cmp y x) ≡ false → bytes_eq x.name y.name ≡ false → name_cmp x y ≡ Less
above x y e f =
    greater (name_cmp x y) (sym (ap is_lt (name_total.antisymm y x)) ∙ e) (is_eq-slice_cmp x.name y.name ∙ f)

none_equal : (x y : EnvPair) (zs : List EnvPair) → AllByRecursion (λ z. is_lt (name_cmp z y) ≡ false) zs
    → name_cmp x y ≡ Less → list_any (has_name x.name) zs ≡ false
none_equal x y [] h e = refl
none_equal x y (z ∷ zs) h e = elim (cases_Bool (bytes_eq x.name z.name)) [
  | inl f ↦
      let equal = (bytes_eq-Decides x.name z.name).0 f in
      let less : slice_cmp nat_cmp z.name y.name ≡ Less = ap (λ n. slice_cmp nat_cmp n y.name) (sym equal) ∙ e in
      absurd (false≢true (sym h.0 ∙ ap is_lt less))
  | inr f ↦ ap (λ b. b || list_any (has_name x.name) zs) f ∙ none_equal x y zs h.1 e
]

not_itself : (y : EnvPair) → is_lt (name_cmp y y) ≡ false
not_itself y = by_order (name_cmp y y) (name_total.antisymm y y)
  where
    by_order : (o : Ordering) → o ≡ ordering_reverse o → is_lt o ≡ false
    by_order Less e = cc
    by_order Equal e = refl
    by_order Greater e = refl

-- among sorted variables the first has another name than all others if it has another than the next
pub next_differs : (x y : EnvPair) (ys : List EnvPair) → IsSortedByName (x ∷ y ∷ ys)
    → bytes_eq x.name y.name ≡ false → has_distinct_names (x ∷ y ∷ ys) ≡ has_distinct_names (y ∷ ys)
next_differs x y ys h e =
    let less = above x y (not_below x (y ∷ ys) h).0 e in
    let rest = not_below y ys (sorted_rest x (y ∷ ys) h) in
    ap (λ b. not b && has_distinct_names (y ∷ ys)) (none_equal x y (y ∷ ys) (not_itself y, rest) less)

pub sorted_more : (rest more : List EnvPair) (a : EnvPair) → rest ≡ a ∷ more → IsSortedByName rest → IsSortedByName more
sorted_more rest more a is h = sorted_rest a more (subst IsSortedByName is h)

pub distinct_more : (rest more after : List EnvPair) (a b : EnvPair) → rest ≡ a ∷ more → more ≡ b ∷ after → IsSortedByName rest
    → bytes_eq a.name b.name ≡ false → has_distinct_names more ≡ has_distinct_names rest
distinct_more rest more after a b is next h e =
    let whole : rest ≡ a ∷ b ∷ after = is ∙ ap (λ t. a ∷ t) next in
    ap has_distinct_names next ∙ sym (next_differs a b after (subst IsSortedByName whole h) e) ∙ sym (ap has_distinct_names whole)

pub equal_next : (rest more after : List EnvPair) (a b : EnvPair) → rest ≡ a ∷ more → more ≡ b ∷ after
    → bytes_eq a.name b.name ≡ true → has_distinct_names rest ≡ false
equal_next rest more after a b is next e =
    ap has_distinct_names (is ∙ ap (λ t. a ∷ t) next)
    ∙ ap (λ t. not (t || list_any (has_name a.name) after) && has_distinct_names (b ∷ after)) e

all_above : (x : EnvPair) (ys : List EnvPair) → AllByRecursion (λ y. is_lt (name_cmp y x) ≡ false) ys
    → list_any (has_name x.name) ys ≡ false → AllByRecursion (λ y. name_cmp x y ≡ Less) ys
all_above x [] h e = tt
all_above x (y ∷ ys) h e = elim (cases_Bool (bytes_eq x.name y.name)) [
  | inl f ↦ absurd (false≢true (sym e ∙ ap (λ b. b || list_any (has_name x.name) ys) f))
  | inr f ↦ (above x y h.0 f, all_above x ys h.1 (sym (ap (λ b. b || list_any (has_name x.name) ys) f) ∙ e))
]

strictly : (xs : List EnvPair) → IsSortedByName xs → has_distinct_names xs ≡ true → IsStrictlySortedBy name_cmp xs
unfolding IsStrictlySortedBy
strictly [] h e = tt
strictly (x ∷ xs) h e =
    let parts = distinct_parts x xs e in
    (all_above x xs (not_below x xs h) parts.0, strictly xs (sorted_rest x xs h) parts.1)

-- ## As a set

other_name : (x : EnvPair) (ys : List EnvPair) (y : EnvPair) → Has ys y → list_any (has_name x.name) ys ≡ false
    → name_cmp x y ≡ Equal → ⊥
other_name x [] y h e f = h
other_name x (z ∷ zs) y h e f = elim (cases_Bool (bytes_eq x.name z.name)) [
  | inl g ↦ false≢true (sym e ∙ ap (λ b. b || list_any (has_name x.name) zs) g)
  | inr g ↦ elim h [
    | inl same ↦
        let tie : name_cmp x z ≡ Equal = subst (λ v. name_cmp x v ≡ Equal) (sym same) f in
        false≢true (sym g ∙ sym (is_eq-slice_cmp x.name z.name) ∙ ap is_eq tie)
    | inr more ↦ other_name x zs y more (sym (ap (λ b. b || list_any (has_name x.name) zs) g) ∙ e) f
  ]
]

tied_back : (x y : EnvPair) → name_cmp x y ≡ Equal → name_cmp y x ≡ Equal
tied_back x y e = name_total.antisymm y x ∙ ap ordering_reverse e

tied_are_equal : (xs : List EnvPair) → has_distinct_names xs ≡ true → TiedAreEqual name_cmp xs
tied_are_equal [] d x y h k e = absurd h
tied_are_equal (z ∷ zs) d x y h k e =
    let parts = distinct_parts z zs d in
    elim h [
      | inl zx ↦ elim k [
        | inl zy ↦ sym zx ∙ zy
        | inr m ↦ absurd (other_name z zs y m parts.0 (subst (λ v. name_cmp v y ≡ Equal) (sym zx) e))
      ]
      | inr n ↦ elim k [
        | inl zy ↦
            let tie = subst (λ v. name_cmp v x ≡ Equal) (sym zy) (tied_back x y e) in
            absurd (other_name z zs x n parts.0 tie)
        | inr m ↦ tied_are_equal zs parts.1 x y n m e
      ]
    ]

-- sorted variables of different names are the set of those given
pub set_of_names : (given sorted : List EnvPair) → IsPermutation given sorted → IsSortedByName sorted
    → has_distinct_names given ≡ true → sorted ≡ set_by name_cmp given
set_of_names given sorted p h d =
    only_set name_total given sorted (tied_are_equal given d) (record {
      rising = strictly sorted h (permuted_names given sorted p ∙ d);
      members = λ q. (Contains-permutation given sorted q p, Contains-permutation sorted given q (IsPermutation-sym given sorted p));
    })

-- these variables where they are taken, and otherwise the fault
abbrev pub if_taken : Bool → List EnvPair → Outcome (List EnvPair)
if_taken answer xs = if answer then Ok xs else Err BadArgument

-- a test of the sorted variables says whether those given are taken
pub taken_if_distinct : (given sorted : List EnvPair) (answer : Bool) → IsPermutation given sorted → IsSortedByName sorted
    → answer ≡ has_distinct_names sorted → answer ≡ true
    → if_taken (has_distinct_names given) (set_by name_cmp given) ≡ Ok sorted
taken_if_distinct given sorted answer p h e holds =
    let distinct : has_distinct_names given ≡ true = sym (permuted_names given sorted p) ∙ sym e ∙ holds in
    ap (λ b. if_taken b (set_by name_cmp given)) distinct ∙ ap Ok (sym (set_of_names given sorted p h distinct))

pub refused_if_equal : (given sorted : List EnvPair) (answer : Bool) → IsPermutation given sorted
    → answer ≡ has_distinct_names sorted → answer ≡ false
    → if_taken (has_distinct_names given) (set_by name_cmp given) ≡ Err BadArgument
refused_if_equal given sorted answer p e other =
    let distinct : has_distinct_names given ≡ false = sym (permuted_names given sorted p) ∙ sym e ∙ other in
    ap (λ b. if_taken b (set_by name_cmp given)) distinct
