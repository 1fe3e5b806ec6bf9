-- The changes of a repair as they are planned, and how many of them there are.
use Rattle.std.proofs.Common.{◌≡◌, ◌⊎◌, ℕ, zero, suc, ◌+◌, ◌<◌, ◌≤◌, Bool, true, false, cond, List, [], ◌∷◌, ◌++◌, get_or, length, map, take, refl, sym, ap, ◌∙◌, subst, inl, inr, arith}
use Rattle.std.specs.Prelude.{All}
use Rattle.std.specs.List.{AllByRecursion}
use Rattle.std.proofs.lemmas.List.{append_assoc, map-append, length-map}
use Rattle.std.proofs.lemmas.List.Elements.{All-from_recursion, recursion_from_All}
use Rattle.bx_tree.proofs.Lists.{all_append}
use Rattle.bx_io.specs.Holdings.{Change, Drop, name_of}
use Rattle.bx_io.specs.Names.{IsName}
use Rattle.cache_care_check.specs.declared.surveying.Finding.{Finding}
use Rattle.cache_care_check.specs.declared.surveying.Finding.TheVariants as findings
use Rattle.cache_care.specs.Counts.{drop_count}
use Rattle.cache_care.specs.Planning.{planned_change}
use Rattle.cache_care.specs.Repairing.{names_found, repairs, same_finding}
use Rattle.cache_care.specs.declared.planning.Planned.{Planned}
use Rattle.cache_care.proofs.Planned.{drop_count-append}
use Rattle.cache_care.proofs.Repaired.{same_is}

-- ## One name more

found_first : (wanted : Finding) (names : List (List ℕ)) (found : List Finding) (i : ℕ) (name : List ℕ) (f : Finding) → i < length names → i < length found
    → name ≡ get_or names i name → f ≡ get_or found i f
    → names_found wanted (take (suc i) names) (take (suc i) found)
    ≡ names_found wanted (take i names) (take i found) ++ cond (same_finding wanted f) (name ∷ []) []
found_first wanted [] found i name f l k named is = absurd (omega (arith, l))
found_first wanted (n ∷ names) [] i name f l k named is = absurd (omega (arith, k))
found_first wanted (n ∷ names) (g ∷ found) zero name f l k named is =
    ap (λ (h : Finding). cond (same_finding wanted h) (n ∷ []) []) (sym is)
    ∙ ap (λ (m : List ℕ). cond (same_finding wanted f) (m ∷ []) []) (sym named)
found_first wanted (n ∷ names) (g ∷ found) (suc i) name f l k named is =
    ap (λ (ns : List (List ℕ)). cond (same_finding wanted g) (n ∷ ns) ns)
    (found_first wanted names found i name f (omega (arith, l)) (omega (arith, k)) named is)
    ∙ by_first (same_finding wanted g)
  where
    by_first : (b : Bool) → cond b (n ∷ (names_found wanted (take i names) (take i found) ++ cond (same_finding wanted f) (name ∷ []) []))
        (names_found wanted (take i names) (take i found) ++ cond (same_finding wanted f) (name ∷ []) [])
        ≡ cond b (n ∷ names_found wanted (take i names) (take i found)) (names_found wanted (take i names) (take i found))
        ++ cond (same_finding wanted f) (name ∷ []) []
    by_first true = refl
    by_first false = refl

-- a name of which this is found is planned to be dropped, and no other
pub found_more : (wanted : Finding) (names : List (List ℕ)) (found : List Finding) (i : ℕ) (name : List ℕ) (f : Finding) (b : Bool) (start before now : List Change)
    → i < length names → i < length found → name ≡ get_or names i name → f ≡ get_or found i f → same_finding wanted f ≡ b
    → before ≡ start ++ map Drop (names_found wanted (take i names) (take i found)) → now ≡ before ++ cond b (Drop name ∷ []) []
    → now ≡ start ++ map Drop (names_found wanted (take (i + 1) names) (take (i + 1) found))
found_more wanted names found i name f b start before now l k named is same so_far step =
    let done : List (List ℕ) = names_found wanted (take i names) (take i found) in
    let next : i + 1 ≡ suc i = omega arith in
    let more : names_found wanted (take (i + 1) names) (take (i + 1) found) ≡ done ++ cond b (name ∷ []) [] =
    ap (λ n. names_found wanted (take n names) (take n found)) next ∙ found_first wanted names found i name f l k named is ∙ ap (λ t. done ++ cond t (name ∷ []) []) same in
    step ∙ ap (λ (cs : List Change). cs ++ cond b (Drop name ∷ []) []) so_far
    ∙ append_assoc start (map Drop done) (cond b (Drop name ∷ []) [])
    ∙ ap (λ (cs : List Change). start ++ cs) (ap (λ (cs : List Change). map Drop done ++ cs) (drops_if b) ∙ sym (map-append Drop done (cond b (name ∷ []) []))
    ∙ ap (map Drop) (sym more))
  where
    drops_if : (t : Bool) → cond t (Drop name ∷ []) [] ≡ map Drop (cond t (name ∷ []) [])
    drops_if true = refl
    drops_if false = refl

-- ## How many

pub drops_all : (names : List (List ℕ)) → drop_count (map Drop names) ≡ length names
drops_all [] = refl
drops_all (n ∷ names) = let e = drops_all names in omega (arith, e)

one_of : (f : Finding) (n : List ℕ) (bad damaged : List (List ℕ)) (all : ℕ) → length bad + length damaged ≤ all
    → length (cond (same_finding findings.Bad f) (n ∷ bad) bad) + length (cond (same_finding findings.Damaged f) (n ∷ damaged) damaged) ≤ suc all
one_of findings.Damaged n bad damaged all h = omega (arith, h)
one_of findings.Bad n bad damaged all h = omega (arith, h)
one_of findings.Honest n bad damaged all h = omega (arith, h)
one_of findings.Other n bad damaged all h = omega (arith, h)

found_few : (names : List (List ℕ)) (found : List Finding)
    → length (names_found findings.Bad names found) + length (names_found findings.Damaged names found) ≤ length names
found_few [] found = omega arith
found_few (n ∷ names) [] = omega arith
found_few (n ∷ names) (f ∷ found) =
    one_of f n (names_found findings.Bad names found) (names_found findings.Damaged names found) (length names) (found_few names found)

pub repairs_few : (names : List (List ℕ)) (found : List Finding) → drop_count (repairs names found) ≤ length names
repairs_few names found =
    let sum = drop_count-append (map Drop (names_found findings.Bad names found)) (map Drop (names_found findings.Damaged names found)) in
    let bad = drops_all (names_found findings.Bad names found) in
    let damaged = drops_all (names_found findings.Damaged names found) in
    let few = found_few names found in
    omega (arith, sum, bad, damaged, few)

-- ## Names

found_names : (wanted : Finding) (names : List (List ℕ)) (found : List Finding) → AllByRecursion IsName names
    → AllByRecursion (λ (c : Change). IsName (name_of c)) (map Drop (names_found wanted names found))
found_names wanted [] found h = tt
found_names wanted (n ∷ names) [] h = tt
found_names wanted (n ∷ names) (f ∷ found) h = by_first (same_finding wanted f) (found_names wanted names found h.1)
  where
    by_first : (b : Bool) → AllByRecursion (λ (c : Change). IsName (name_of c)) (map Drop (names_found wanted names found))
        → AllByRecursion (λ (c : Change). IsName (name_of c)) (map Drop (cond b (n ∷ names_found wanted names found) (names_found wanted names found)))
    by_first true later = (h.0, later)
    by_first false later = later

pub repairs_names : (names : List (List ℕ)) (found : List Finding) → AllByRecursion IsName names
    → AllByRecursion (λ (c : Change). IsName (name_of c)) (repairs names found)
repairs_names names found h =
    all_append (λ (c : Change). IsName (name_of c)) (map Drop (names_found findings.Bad names found)) (map Drop (names_found findings.Damaged names found))
    (found_names findings.Bad names found h) (found_names findings.Damaged names found h)

-- bad entries first, then damaged names
pub planned_both : (names : List (List ℕ)) (found : List Finding) (none bad all : List Planned) → none ≡ []
    → map planned_change bad ≡ map planned_change none ++ map Drop (names_found findings.Bad names found)
    → map planned_change all ≡ map planned_change bad ++ map Drop (names_found findings.Damaged names found) → map planned_change all ≡ repairs names found
planned_both names found none bad all nothing one two =
    two
    ∙ ap (λ (cs : List Change). cs ++ map Drop (names_found findings.Damaged names found))
    (one ∙ ap (λ (ps : List Planned). map planned_change ps ++ map Drop (names_found findings.Bad names found)) nothing)

-- ## Whether this was found

-- what a finding that is compared with another says of it
pub found_same : (wanted f : Finding) → f ≡ wanted → same_finding wanted f ≡ true
found_same wanted f e = ap (same_finding wanted) e ∙ itself wanted
  where
    itself : (g : Finding) → same_finding g g ≡ true
    itself findings.Damaged = refl
    itself findings.Bad = refl
    itself findings.Honest = refl
    itself findings.Other = refl

pub found_other : (wanted f : Finding) → (f ≡ wanted → ⊥) → same_finding wanted f ≡ false
found_other wanted f other = by_test (same_finding wanted f) refl
  where
    by_test : (b : Bool) → same_finding wanted f ≡ b → b ≡ false
    by_test true e = absurd (other (sym (same_is wanted f e)))
    by_test false e = refl
