-- Plans: what holds of all their changes, and what is left of them where they are cut off.
use Rattle.std.proofs.Common.{◌≡◌, ◌⊎◌, ℕ, suc, ◌+◌, ◌≤◌, Bool, true, false, cond, List, [], ◌∷◌, ◌++◌, codes, filter, length, length-append, map, Option, Some, refl, sym, ap, ◌∙◌, subst, inl, inr, arith}
use Rattle.std.specs.Prelude.{All, IsSome}
use Rattle.std.specs.FinMap.{keys}
use Rattle.std.specs.List.{AllByRecursion}
use Rattle.std.proofs.lemmas.List.{append-nil, length-map, map-append}
use Rattle.std.proofs.lemmas.List.Elements.{All-from_recursion, recursion_from_All}
use Rattle.bx_tree.specs.Members.{Has}
use Rattle.bx_tree.proofs.Lists.{all_append, all_front, all_weaker}
use Rattle.bx_tree.proofs.Members.{has_all}
use Rattle.bx_io.specs.Holdings.{Change, Holdings, IsPrefix, Keeps, Makes, MakesPrefix, StoreTold, held_in, name_of}
use Rattle.bx_io.specs.Names.{IsName}
use Rattle.bx_io.proofs.Changes.{keeps_makes, makes_none}
use Rattle.prints.specs.Lines.{begins}
use Rattle.cache_care.specs.Counts.{drop_count}
use Rattle.cache_care.specs.Planning.{IsDrop, OnlyDrops, planned_change}
use Rattle.cache_care.specs.Trimming.{AreTrims, IsTrim, OnlyTrims}
use Rattle.cache_care.specs.declared.planning.Planned.{Planned}
use Rattle.cache_care.proofs.Counted.{trims_both}
use Rattle.cache_care.proofs.Trimmed.{entry_or_blob, entry_or_list, list_or_blob}

-- ## Lists by recursion and by place

unmapped : {X Y : Type 0} (P : Y → Type 0) (f : X → Y) (xs : List X) → AllByRecursion P (map f xs) → AllByRecursion (λ x. P (f x)) xs
unmapped P f [] h = tt
unmapped P f (x ∷ xs) h = (h.0, unmapped P f xs h.1)

mapped : {X Y : Type 0} (P : Y → Type 0) (f : X → Y) (xs : List X) → AllByRecursion (λ x. P (f x)) xs → AllByRecursion P (map f xs)
mapped P f [] h = tt
mapped P f (x ∷ xs) h = (h.0, mapped P f xs h.1)

pub names_by_recursion : {X : Type 0} (text : X → List ℕ) (names : List X) → All (λ name. IsName (text name)) names → AllByRecursion IsName (map text names)
names_by_recursion text names h = mapped IsName text names (recursion_from_All (λ name. IsName (text name)) names h)

pub of_plan : (P : Change → Type 0) (plan : List Planned) (changes : List Change) → map planned_change plan ≡ changes → AllByRecursion P changes
    → All (λ (p : Planned). P (planned_change p)) plan
of_plan P plan changes is h =
    All-from_recursion (λ (p : Planned). P (planned_change p)) plan
    (unmapped P planned_change plan (subst (AllByRecursion P) (sym is) h))

pub in_plan : (P : Change → Type 0) (plan : List Planned) → All (λ (p : Planned). P (planned_change p)) plan → AllByRecursion P (map planned_change plan)
in_plan P plan h = mapped P planned_change plan (recursion_from_All (λ (p : Planned). P (planned_change p)) plan h)

-- ## Trims

all_trims : (names : List (List ℕ)) (changes : List Change) → AllByRecursion (λ c. IsTrim c × Has names (name_of c)) changes → AllByRecursion IsTrim changes
all_trims names changes h = all_weaker (λ (c : Change). IsTrim c × Has names (name_of c)) IsTrim (λ c k. k.0) changes h

trim_names : (names : List (List ℕ)) (changes : List Change) → AllByRecursion IsName names → AllByRecursion (λ c. IsTrim c × Has names (name_of c)) changes
    → AllByRecursion (λ (c : Change). IsName (name_of c)) changes
trim_names names changes all h =
    all_weaker (λ (c : Change). IsTrim c × Has names (name_of c)) (λ (c : Change). IsName (name_of c)) (λ c k. has_all IsName names (name_of c) all k.1) changes h

pub plan_trims : (names : List (List ℕ)) (plan : List Planned) → AreTrims names (map planned_change plan) → All (λ (p : Planned). IsTrim (planned_change p)) plan
plan_trims names plan h = of_plan IsTrim plan (map planned_change plan) refl (all_trims names (map planned_change plan) h.each)

pub plan_names : (names : List (List ℕ)) (plan : List Planned) → AllByRecursion IsName names → AreTrims names (map planned_change plan)
    → All (λ (p : Planned). IsName (name_of (planned_change p))) plan
plan_names names plan all h = of_plan (λ (c : Change). IsName (name_of c)) plan (map planned_change plan) refl (trim_names names (map planned_change plan) all h.each)

-- those of two plans
pub joined_trims : (names more : List (List ℕ)) (first next joined : List Planned) → joined ≡ first ++ next → AreTrims names (map planned_change first)
    → AreTrims more (map planned_change next) → AreTrims (names ++ more) (map planned_change joined)
joined_trims names more first next joined is h k =
    subst (AreTrims (names ++ more)) (sym (ap (map planned_change) is ∙ map-append planned_change first next))
    (trims_both names more (map planned_change first) (map planned_change next) h k)

-- ## Kinds

all_filter : (P : List ℕ → Type 0) (p : List ℕ → Bool) (names : List (List ℕ)) → AllByRecursion P names → AllByRecursion P (filter p names)
all_filter P p [] h = tt
all_filter P p (n ∷ names) h = by_first (p n) (all_filter P p names h.1)
  where
    by_first : (b : Bool) → AllByRecursion P (filter p names) → AllByRecursion P (cond b (n ∷ filter p names) (filter p names))
    by_first true later = (h.0, later)
    by_first false later = later

-- the names by kind: entries, lists and contents
abbrev pub by_kind : List (List ℕ) → List (List ℕ)
by_kind names =
    (filter (begins (codes "e/")) names ++ filter (begins (codes "w/")) names) ++ filter (begins (codes "b/")) names

pub all_by_kind : (names : List (List ℕ)) → AllByRecursion IsName names → AllByRecursion IsName (by_kind names)
all_by_kind names h =
    all_append IsName (filter (begins (codes "e/")) names ++ filter (begins (codes "w/")) names) (filter (begins (codes "b/")) names)
    (all_append IsName (filter (begins (codes "e/")) names) (filter (begins (codes "w/")) names) (all_filter IsName (begins (codes "e/")) names h)
    (all_filter IsName (begins (codes "w/")) names h)) (all_filter IsName (begins (codes "b/")) names h)

one_kind : (n : List ℕ) (e w b : Bool) (es ws bs : List (List ℕ)) (all : ℕ) → (e ≡ true → w ≡ true → ⊥) → (e ≡ true → b ≡ true → ⊥)
    → (w ≡ true → b ≡ true → ⊥) → length es + length ws + length bs ≤ all
    → length (cond e (n ∷ es) es) + length (cond w (n ∷ ws) ws) + length (cond b (n ∷ bs) bs) ≤ suc all
one_kind n true true b es ws bs all ew eb wb h = absurd (ew refl refl)
one_kind n true false true es ws bs all ew eb wb h = absurd (eb refl refl)
one_kind n true false false es ws bs all ew eb wb h = omega (arith, h)
one_kind n false true true es ws bs all ew eb wb h = absurd (wb refl refl)
one_kind n false true false es ws bs all ew eb wb h = omega (arith, h)
one_kind n false false true es ws bs all ew eb wb h = omega (arith, h)
one_kind n false false false es ws bs all ew eb wb h = omega (arith, h)

kinds_few : (names : List (List ℕ))
    → length (filter (begins (codes "e/")) names) + length (filter (begins (codes "w/")) names) + length (filter (begins (codes "b/")) names) ≤ length names
kinds_few [] = omega arith
kinds_few (n ∷ names) =
    one_kind n (begins (codes "e/") n) (begins (codes "w/") n) (begins (codes "b/") n) (filter (begins (codes "e/")) names) (filter (begins (codes "w/")) names)
    (filter (begins (codes "b/")) names) (length names) (entry_or_list n) (entry_or_blob n) (list_or_blob n) (kinds_few names)

pub by_kind_few : (names : List (List ℕ)) → length (by_kind names) ≤ length names
by_kind_few names =
    let es = filter (begins (codes "e/")) names in
    let ws = filter (begins (codes "w/")) names in
    let bs = filter (begins (codes "b/")) names in
    let few = kinds_few names in
    let first = length-append es ws in
    let all = length-append (es ++ ws) bs in
    omega (arith, few, first, all)

pub plan_few : {X : Type 0} (text : X → List ℕ) (names : List X) (changes : List Change) → AreTrims (by_kind (map text names)) changes
    → drop_count changes ≤ length names
plan_few text names changes h =
    let few = h.few in
    let kinds = by_kind_few (map text names) in
    let same = length-map names text in
    omega (arith, few, kinds, same)

-- ## What was done

pub only_drops : (before now : StoreTold) (changes : List Change) → AllByRecursion IsDrop changes → MakesPrefix before now changes → OnlyDrops before now
only_drops before now changes all p = record {
  made = p.made;
  drops = all_front IsDrop p.made p.first.rest (subst (AllByRecursion IsDrop) (sym p.first.joined) all);
  makes = p.makes;
}

pub only_trims : (before now : StoreTold) (changes : List Change) → AllByRecursion IsTrim changes → MakesPrefix before now changes → OnlyTrims before now
only_trims before now changes all p = record {
  made = p.made;
  trims = all_front IsTrim p.made p.first.rest (subst (AllByRecursion IsTrim) (sym p.first.joined) all);
  makes = p.makes;
}

pub whole_prefix : (before now : StoreTold) (changes : List Change) → Makes before changes now → MakesPrefix before now changes
whole_prefix before now changes makes = record { made = changes; first = record { rest = []; joined = append-nil changes }; makes = makes }

pub none_prefix : (before now : StoreTold) (changes : List Change) → Keeps before now → MakesPrefix before now changes
none_prefix before now changes keeps = record { made = []; first = record { rest = changes; joined = refl }; makes = makes_none before now keeps }

-- a call that changed nothing comes before changes
pub keeps_prefix : (before between now : StoreTold) (changes : List Change) → Keeps before between → MakesPrefix between now changes → MakesPrefix before now changes
keeps_prefix before between now changes keeps p = record {
  made = p.made;
  first = p.first;
  makes = keeps_makes before between now p.made keeps p.makes;
}
