-- Changes that are planned, as they are made and counted.
use Rattle.std.proofs.Common.{◌≡◌, ℕ, ◌+◌, ◌<◌, ◌≤◌, List, [], ◌∷◌, ◌++◌, map, take, drop, length, get_or, refl, sym, ap, ◌∙◌, subst, arith}
use Rattle.std.proofs.lemmas.List.{length-map, length-take, map-append, take_all, take_more, take-append-drop}
use Rattle.bx_io.specs.Holdings.{Change, Drop, Keeps, Makes, MakesPrefix, Put, StoreTold}
use Rattle.bx_io.proofs.Changes.{makes_both, makes_keeps}
use Rattle.cache_care.specs.Counts.{drop_count, one_drop}
use Rattle.cache_care.specs.Planning.{planned_change}
use Rattle.cache_care.specs.declared.planning.Planned.{Planned}

-- ## One element more

pub taken_more : {X : Type 0} (xs : List X) (i : ℕ) (x : X) → i < length xs → x ≡ get_or xs i x → take (i + 1) xs ≡ take i xs ++ x ∷ []
taken_more xs i x l is = take_more xs i x l ∙ ap (λ y. take i xs ++ y ∷ []) (sym is)

pub mapped_more : {X Y : Type 0} (f : X → Y) (xs : List X) (i : ℕ) (x : X) → i < length xs → x ≡ get_or xs i x
    → map f (take (i + 1) xs) ≡ map f (take i xs) ++ f x ∷ []
mapped_more f xs i x l is = ap (map f) (taken_more xs i x l is) ∙ map-append f (take i xs) (x ∷ [])

-- a change that is planned last
pub pushed : (before now : List Planned) (p : Planned) → now ≡ before ++ p ∷ [] → map planned_change now ≡ map planned_change before ++ planned_change p ∷ []
pushed before now p is = ap (map planned_change) is ∙ map-append planned_change before (p ∷ [])

-- ## Changes that are made

pub made_more : (start before now : StoreTold) (plan : List Planned) (i : ℕ) (p : Planned) → i < length plan → p ≡ get_or plan i p
    → Makes start (map planned_change (take i plan)) before → Makes before (planned_change p ∷ []) now
    → Makes start (map planned_change (take (i + 1) plan)) now
made_more start before now plan i p l is so_far step =
    subst (λ (cs : List Change). Makes start cs now) (sym (mapped_more planned_change plan i p l is))
    (makes_both start before now (map planned_change (take i plan)) (planned_change p ∷ []) so_far step)

pub made_cut : (start before now : StoreTold) (plan : List Planned) (i : ℕ) → Makes start (map planned_change (take i plan)) before → Keeps before now
    → MakesPrefix start now (map planned_change plan)
made_cut start before now plan i so_far refused = record {
  made = map planned_change (take i plan);
  first = record {
    rest = map planned_change (drop i plan);
    joined = sym (map-append planned_change (take i plan) (drop i plan)) ∙ ap (map planned_change) (take-append-drop i plan);
  };
  makes = makes_keeps start before now (map planned_change (take i plan)) so_far refused;
}

pub made_whole : (start now : StoreTold) (plan : List Planned) (i : ℕ) → length plan ≤ i → Makes start (map planned_change (take i plan)) now
    → Makes start (map planned_change plan) now
made_whole start now plan i l so_far = subst (λ (ps : List Planned). Makes start (map planned_change ps) now) (take_all i plan l) so_far

-- ## Drops that are counted

pub drop_count-append : (xs ys : List Change) → drop_count (xs ++ ys) ≡ drop_count xs + drop_count ys
drop_count-append [] ys = omega arith
drop_count-append (c ∷ xs) ys = let e = drop_count-append xs ys in omega (arith, e)

pub drops_few : (xs : List Change) → drop_count xs ≤ length xs
drops_few [] = omega arith
drops_few (Put name bytes ∷ xs) = let l = drops_few xs in omega (arith, l)
drops_few (Drop name ∷ xs) = let l = drops_few xs in omega (arith, l)

pub counted_more : (plan : List Planned) (i : ℕ) (p : Planned) → i < length plan → p ≡ get_or plan i p
    → drop_count (map planned_change (take (i + 1) plan)) ≡ drop_count (map planned_change (take i plan)) + one_drop (planned_change p)
counted_more plan i p l is =
    let one = drop_count-append (map planned_change (take i plan)) (planned_change p ∷ []) in
    ap drop_count (mapped_more planned_change plan i p l is) ∙ omega (arith, one)

-- what was counted so far is at most the place
pub counted_below : (plan : List Planned) (i : ℕ) → drop_count (map planned_change (take i plan)) ≤ i
counted_below plan i =
    let few = drops_few (map planned_change (take i plan)) in
    let same = length-map (take i plan) planned_change in
    let short = length-take i plan in
    omega (arith, few, same, short)

pub one_at_most : (c : Change) → one_drop c ≤ 1
one_at_most (Put name bytes) = omega arith
one_at_most (Drop name) = omega arith

pub counted_whole : (plan : List Planned) (i : ℕ) → length plan ≤ i → drop_count (map planned_change (take i plan)) ≡ drop_count (map planned_change plan)
counted_whole plan i l = ap (λ (ps : List Planned). drop_count (map planned_change ps)) (take_all i plan l)
