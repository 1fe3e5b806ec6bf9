-- Lists that are joined one by one.
use Rattle.std.proofs.Common.{◌≡◌, ◌<◌, ◌+◌, ℕ, suc, List, [], ◌∷◌, ◌++◌, Option, Some, None, length, map, drop, get_or, option_map, refl, ap, sym, ◌∙◌, append_assoc, arith}
use Rattle.std.specs.Prelude.{option_and_then}
use Rattle.std.proofs.Math.Seq.{drop-cons}
use Rattle.dscript_names_workspace.specs.Lists.{concat_if_all}

-- a list before another one, if there is that
abbrev pub after : {Y : Type 0} → List Y → Option (List Y) → Option (List Y)
after before o = option_map (λ more. before ++ more) o

after-nothing : {Y : Type 0} (o : Option (List Y)) → after [] o ≡ o
after-nothing None = refl
after-nothing (Some ys) = refl

after-after : {Y : Type 0} (xs ys : List Y) (o : Option (List Y)) → after xs (after ys o) ≡ after (xs ++ ys) o
after-after xs ys None = refl
after-after xs ys (Some zs) = ap Some (sym (append_assoc xs ys zs))

pub joined-init : {X Y : Type 0} (f : X → Option (List Y)) (xs : List X) → concat_if_all f xs ≡ after [] (concat_if_all f xs)
joined-init f xs = sym (after-nothing (concat_if_all f xs))

-- what is left begins with the element at this position
left_is : {A X : Type 0} (view : A → X) (items : List A) (i : ℕ) (item : A) → i < length items
    → item ≡ get_or items i item → map view (drop i items) ≡ view item ∷ map view (drop (i + 1) items)
left_is view items i item l at =
    ap (map view) (drop-cons items i item l) ∙ ap (λ x. view x ∷ map view (drop (suc i) items)) (sym at)
    ∙ ap (λ n. view item ∷ map view (drop n items)) (let e : suc i ≡ i + 1 = omega arith in e)

-- an element that gives a list
pub joined-step : {A X Y : Type 0} (f : X → Option (List Y)) (view : A → X) (items : List A) (i : ℕ) (item : A)
    (whole : Option (List Y)) (before more : List Y) → i < length items → item ≡ get_or items i item
    → whole ≡ after before (concat_if_all f (map view (drop i items))) → f (view item) ≡ Some more
    → whole ≡ after (before ++ more) (concat_if_all f (map view (drop (i + 1) items)))
joined-step f view items i item whole before more l at is given =
    let rest = concat_if_all f (map view (drop (i + 1) items)) in
    is ∙ ap (λ xs. after before (concat_if_all f xs)) (left_is view items i item l at)
    ∙ ap (λ o. after before (option_and_then (λ ys. after ys rest) o)) given
    ∙ after-after before more rest

-- an element that gives none
pub joined-none : {A X Y : Type 0} (f : X → Option (List Y)) (view : A → X) (items : List A) (i : ℕ) (item : A)
    (whole : Option (List Y)) (before : List Y) → i < length items → item ≡ get_or items i item
    → whole ≡ after before (concat_if_all f (map view (drop i items))) → f (view item) ≡ None
    → whole ≡ None
joined-none f view items i item whole before l at is given =
    let rest = concat_if_all f (map view (drop (i + 1) items)) in
    is ∙ ap (λ xs. after before (concat_if_all f xs)) (left_is view items i item l at)
    ∙ ap (λ o. after before (option_and_then (λ ys. after ys rest) o)) given
