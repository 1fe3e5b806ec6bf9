-- The answers that a run was given are those of its answerer.
use Rattle.std.proofs.Common.{◌≡◌, ℕ, zero, suc, ◌<◌, ◌+◌, arith, length, get_or, replicate, take, Bool, true, false, cond, List, [], ◌∷◌, ◌++◌, map, Option, Some, None, Result, Ok, Err, refl, ap, sym, ◌∙◌, subst, inl, inr}
use Rattle.std.specs.List.{AllByRecursion, HoldsAt}
use Rattle.std.specs.Option.{MatchOption}
use Rattle.std.specs.Result.{result_ok}
use Rattle.std.specs.Prelude.{All, slice_set}
use Rattle.std.specs.List.Sorted.{IsBinarySearchResult, IsSearchInRange, IsSortedBy, IsStrictlySortedBy}
use Rattle.std.specs.Ordering.{is_eq, is_lt, ordering_reverse}
use Rattle.std.specs.declared.cmp.Ordering.{Ordering}
use Rattle.std.specs.declared.cmp.Ordering.TheVariants.{Less, Greater}
use Rattle.std.proofs.lemmas.Bool.{cases_lt}
use Rattle.std.proofs.lemmas.List.{take_more}
use Rattle.std.proofs.lemmas.List.Sorted.{searchable_from_sorted}
use Rattle.std.proofs.lemmas.Map.Keys.{Less-from_sorted}
use Rattle.std.proofs.lemmas.List.Elements.{All-from_recursion, recursion_from_All}
use Rattle.bx_tree.specs.Members.{Has}
use Rattle.observed.specs.Asks.{ask_cmp, same_ask}
use Rattle.observed.specs.Orders.{ask_cmp_matches, ask_cmp_total, equal_asks, same_ask_equiv, same_ask_is, same_ask_itself}
use Rattle.observed.specs.declared.ask.Ask.{Ask}
use Rattle.observed.specs.declared.access.Access.{Access}
use Rattle.observed.specs.declared.access.Access.TheVariants.{Asked, Wrote, WriteDenied}
use Rattle.observed.specs.declared.access.Answer.{Answer}
use Rattle.observed.specs.declared.access.Answer.TheVariants as answers
use Rattle.observed.proofs.OneSet.{has_set}
use Rattle.tool_run.specs.Description.{Description, answer_of, given, or_else}
use Rattle.tool_run.specs.Laws.{IsAnswered}
use Rattle.tool_run.specs.Run.{asks_of, path_set, with_ask}
use Rattle.run_record.specs.Answered.{given_in, or_absent, or_before, recorded, with_access}

-- what is in a path set is not answered by a declared file
not_given_in : (d : Description) (g : Option Answer) (ask q : Ask) (asks : List Ask) → given d ask ≡ g → (Has asks q → given d q ≡ None)
    → Has (with_ask g ask asks) q → given d q ≡ None
not_given_in d None ask q asks is rest h = elim h [ inl e ↦ subst (λ (x : Ask). given d x ≡ None) e is | inr k ↦ rest k ]
not_given_in d (Some answer) ask q asks is rest h = rest h

not_given : (d : Description) (accesses : List Access) (q : Ask) → Has (asks_of d accesses) q → given d q ≡ None
not_given d [] q h = absurd h
not_given d (Asked ask answer ∷ rest) q h = not_given_in d (given d ask) ask q (asks_of d rest) refl (not_given d rest q) h
not_given d (Wrote path ∷ rest) q h = not_given d rest q h
not_given d (WriteDenied path ∷ rest) q h = not_given d rest q h

-- the recorded answer of an ask that the declared files do not answer is its answer
same_answer : (t : Bool) (d : Description) (a : Ask → Answer) (ask q : Ask) (answer x : Answer) → same_ask ask q ≡ t → given d q ≡ None
    → answer ≡ answer_of d a ask → cond t (Some answer) None ≡ Some x → x ≡ a q
same_answer true d a ask q answer x same none is e =
    let it : answer ≡ x = cc in
    sym it ∙ is ∙ ap (answer_of d a) (same_ask_is ask q same) ∙ ap (λ g. or_else g (a q)) none
same_answer false d a ask q answer x same none is e = cc

right_before : (o : Option Answer) (d : Description) (a : Ask → Answer) (ask q : Ask) (answer x : Answer) → given d q ≡ None → answer ≡ answer_of d a ask
    → ((y : Answer) → o ≡ Some y → y ≡ a q) → or_before o (cond (same_ask ask q) (Some answer) None) ≡ Some x → x ≡ a q
right_before None d a ask q answer x none is rest e = same_answer (same_ask ask q) d a ask q answer x refl none is e
right_before (Some y) d a ask q answer x none is rest e = rest x e

recorded_right : (d : Description) (a : Ask → Answer) (accesses : List Access) (q : Ask) (x : Answer) → AllByRecursion (IsAnswered d a) accesses → given d q ≡ None
    → recorded accesses q ≡ Some x → x ≡ a q
recorded_right d a [] q x all none e = cc
recorded_right d a (Asked ask answer ∷ rest) q x all none e =
    right_before (recorded rest q) d a ask q answer x none all.0 (λ y. recorded_right d a rest q y all.1 none) e
recorded_right d a (Wrote path ∷ rest) q x all none e = recorded_right d a rest q x all.1 none e
recorded_right d a (WriteDenied path ∷ rest) q x all none e = recorded_right d a rest q x all.1 none e

-- each ask of a path set has a recorded answer
abbrev IsRecorded : Option Answer → Type 0
IsRecorded o = (x : Answer) × (o ≡ Some x)

recorded_here : (o : Option Answer) (ask q : Ask) (answer : Answer) → ask ≡ q → IsRecorded (or_before o (cond (same_ask ask q) (Some answer) None))
recorded_here (Some x) ask q answer e = (x, refl)
recorded_here None ask q answer e =
    (answer, ap (λ t. cond t (Some answer) None) (subst (λ (z : Ask). same_ask ask z ≡ true) e (same_ask_itself ask)))

recorded_later : (o before : Option Answer) → IsRecorded o → IsRecorded (or_before o before)
recorded_later None before h = let e = h.1 in cc
recorded_later (Some x) before h = (x, refl)

recorded_in : (g : Option Answer) (o : Option Answer) (ask q : Ask) (answer : Answer) (asks : List Ask) → (Has asks q → IsRecorded o) → Has (with_ask g ask asks) q
    → IsRecorded (or_before o (cond (same_ask ask q) (Some answer) None))
recorded_in None o ask q answer asks rest h = elim h [ inl e ↦ recorded_here o ask q answer e | inr k ↦ recorded_later o _ (rest k) ]
recorded_in (Some x) o ask q answer asks rest h = recorded_later o _ (rest h)

is_recorded : (d : Description) (accesses : List Access) (q : Ask) → Has (asks_of d accesses) q → IsRecorded (recorded accesses q)
is_recorded d [] q h = absurd h
is_recorded d (Asked ask answer ∷ rest) q h = recorded_in (given d ask) (recorded rest q) ask q answer (asks_of d rest) (is_recorded d rest q) h
is_recorded d (Wrote path ∷ rest) q h = is_recorded d rest q h
is_recorded d (WriteDenied path ∷ rest) q h = is_recorded d rest q h

given_right : (d : Description) (a : Ask → Answer) (accesses : List Access) (q : Ask) → AllByRecursion (IsAnswered d a) accesses → Has (path_set d accesses) q
    → given_in accesses q ≡ a q
given_right d a accesses q all h =
    let asked = has_set (asks_of d accesses) q h in
    let some = is_recorded d accesses q asked in
    ap or_absent some.1 ∙ recorded_right d a accesses q some.0 all (not_given d accesses q asked) some.1

same_map : (f g : Ask → Answer) (asks : List Ask) → ((q : Ask) → Has asks q → f q ≡ g q) → map f asks ≡ map g asks
same_map f g [] same = refl
same_map f g (x ∷ xs) same = ap (λ y. y ∷ map f xs) (same x (inl refl)) ∙ ap (λ ys. g x ∷ ys) (same_map f g xs (λ q h. same q (inr h)))

-- to the asks of a path set
pub all_given : (d : Description) (a : Ask → Answer) (accesses : List Access) → AllByRecursion (IsAnswered d a) accesses
    → map (given_in accesses) (path_set d accesses) ≡ map a (path_set d accesses)
all_given d a accesses all = same_map (given_in accesses) a (path_set d accesses) (λ q h. given_right d a accesses q all h)

-- ## One access more

recorded_after : (xs : List Access) (access : Access) (q : Ask) → recorded (xs ++ access ∷ []) q ≡ with_access access q (recorded xs q)
recorded_after [] (Asked ask answer) q = refl
recorded_after [] (Wrote path) q = refl
recorded_after [] (WriteDenied path) q = refl
recorded_after (Asked other x ∷ xs) access q =
    ap (λ o. or_before o (cond (same_ask other q) (Some x) None)) (recorded_after xs access q)
    ∙ by_access access (recorded xs q) (cond (same_ask other q) (Some x) None)
  where
    by_test : (t : Bool) (answer : Answer) (o before : Option Answer) → or_before (cond t (Some answer) o) before ≡ cond t (Some answer) (or_before o before)
    by_test true answer o before = refl
    by_test false answer o before = refl

    by_access : (access : Access) (o before : Option Answer) → or_before (with_access access q o) before ≡ with_access access q (or_before o before)
    by_access (Asked ask answer) o before = by_test (same_ask ask q) answer o before
    by_access (Wrote path) o before = refl
    by_access (WriteDenied path) o before = refl
recorded_after (Wrote path ∷ xs) access q = recorded_after xs access q
recorded_after (WriteDenied path ∷ xs) access q = recorded_after xs access q

pub recorded_more : (xs : List Access) (i : ℕ) (access : Access) (q : Ask) → i < length xs → access ≡ get_or xs i access
    → recorded (take (i + 1) xs) q ≡ with_access access q (recorded (take i xs) q)
recorded_more xs i access q l is =
    ap (λ (ys : List Access). recorded ys q) (take_more xs i access l)
    ∙ ap (λ (x : Access). recorded (take i xs ++ x ∷ []) q) (sym is)
    ∙ recorded_after (take i xs) access q

-- ## An answer that is put in its place

-- what an ask of another answers stays
same_there : (ask : Ask) (answer : Answer) (f : Ask → Option Answer) (asks : List Ask) → AllByRecursion (λ q. same_ask ask q ≡ false) asks
    → map (λ q. or_absent (f q)) asks ≡ map (λ q. or_absent (with_access (Asked ask answer) q (f q))) asks
same_there ask answer f [] other = refl
same_there ask answer f (x ∷ xs) other =
    ap (λ y. y ∷ map (λ q. or_absent (f q)) xs) (sym (ap (λ t. or_absent (cond t (Some answer) (f x))) other.0))
    ∙ ap (λ ys. or_absent (with_access (Asked ask answer) x (f x)) ∷ ys) (same_there ask answer f xs other.1)

-- no ask is the same
pub none_put : (ask : Ask) (answer : Answer) (f : Ask → Option Answer) (asks : List Ask) → All (λ q. same_ask ask q ≡ false) asks
    → map (λ q. or_absent (f q)) asks ≡ map (λ q. or_absent (with_access (Asked ask answer) q (f q))) asks
none_put ask answer f asks other = same_there ask answer f asks (recursion_from_All (λ q. same_ask ask q ≡ false) asks other)

less_is_other : (x y : Ask) → ask_cmp x y ≡ Less → same_ask x y ≡ false
less_is_other x y l = ask_cmp_matches x y ∙ ap is_eq l

-- the asks after one in order are others
later_others : (x : Ask) (asks : List Ask) → AllByRecursion (λ y. ask_cmp x y ≡ Less) asks → AllByRecursion (λ q. same_ask x q ≡ false) asks
later_others x [] h = tt
later_others x (y ∷ ys) h = (less_is_other x y h.0, later_others x ys h.1)

earlier_other : (x : Ask) (asks : List Ask) (k : ℕ) (d : Ask) → AllByRecursion (λ y. ask_cmp x y ≡ Less) asks → k < length asks → same_ask (get_or asks k d) x ≡ false
earlier_other x asks k d h l = same_ask_equiv.symm (get_or asks k d) x ∙ less_is_other x (get_or asks k d) (All-from_recursion (λ y. ask_cmp x y ≡ Less) asks h k d l)

pub put_there : (asks : List Ask) (place : ℕ) (ask d : Ask) (answer : Answer) (f : Ask → Option Answer) → IsStrictlySortedBy ask_cmp asks → place < length asks
    → get_or asks place d ≡ ask → slice_set (map (λ q. or_absent (f q)) asks) place answer ≡ map (λ q. or_absent (with_access (Asked ask answer) q (f q))) asks
unfolding IsStrictlySortedBy
put_there [] place ask d answer f sorted l is = absurd (omega (arith, l))
put_there (x ∷ xs) zero ask d answer f sorted l is =
    ap (λ y. y ∷ map (λ q. or_absent (f q)) xs) (sym (ap (λ t. or_absent (cond t (Some answer) (f x))) (subst (λ (z : Ask). same_ask ask z ≡ true) (sym is) (same_ask_itself ask))))
    ∙ ap (λ ys. or_absent (with_access (Asked ask answer) x (f x)) ∷ ys)
    (same_there ask answer f xs (subst (λ (z : Ask). AllByRecursion (λ q. same_ask z q ≡ false) xs) is (later_others x xs sorted.0)))
put_there (x ∷ xs) (suc k) ask d answer f sorted l is =
    let within : k < length xs = omega (arith, l) in
    ap (λ y. y ∷ slice_set (map (λ q. or_absent (f q)) xs) k answer)
    (sym (ap (λ t. or_absent (cond t (Some answer) (f x))) (subst (λ (z : Ask). same_ask z x ≡ false) is (earlier_other x xs k d sorted.0 within))))
    ∙ ap (λ ys. or_absent (with_access (Asked ask answer) x (f x)) ∷ ys) (put_there xs k ask d answer f sorted.1 within is)

-- before any access all are absent
pub absent_first : (asks : List Ask) → replicate (length asks) answers.Absent ≡ map (given_in []) asks
absent_first [] = refl
absent_first (x ∷ xs) = ap (λ ys. answers.Absent ∷ ys) (absent_first xs)

-- the answers after one access more
pub given_more : (asks : List Ask) (xs : List Access) (i : ℕ) (access : Access) → i < length xs → access ≡ get_or xs i access
    → map (λ q. or_absent (with_access access q (recorded (take i xs) q))) asks ≡ map (given_in (take (i + 1) xs)) asks
given_more asks xs i access l is =
    same_map (λ q. or_absent (with_access access q (recorded (take i xs) q))) (given_in (take (i + 1) xs)) asks
    (λ q h. ap or_absent (sym (recorded_more xs i access q l is)))

-- ## A search for an ask

sorted_asks : (asks : List Ask) → IsStrictlySortedBy ask_cmp asks → IsSortedBy (λ (a b : Ask). is_lt (ask_cmp a b)) asks
sorted_asks asks up k d low l =
    let less = Less-from_sorted ask_cmp asks k (k + 1) d up (omega arith) l in
    ap is_lt (ask_cmp_total.antisymm (get_or asks (k + 1) d) (get_or asks k d) ∙ ap ordering_reverse less)

other_by : (x q : Ask) (o : Ordering) → is_eq o ≡ false → ask_cmp q x ≡ o → same_ask x q ≡ false
other_by x q o n h = same_ask_equiv.symm x q ∙ ask_cmp_matches q x ∙ ap is_eq h ∙ n

pub ask_from_search : (asks : List Ask) (ask : Ask) (r : Result ℕ ℕ) → IsStrictlySortedBy ask_cmp asks → IsSearchInRange r (length asks)
    → IsBinarySearchResult (λ (q : Ask). ask_cmp q ask) asks r
    → MatchOption (result_ok r) (All (λ q. same_ask ask q ≡ false) asks) (λ i. (i < length asks) × HoldsAt (λ q. q ≡ ask) asks i)
ask_from_search asks ask (Ok i) up l h = (l, λ d. equal_asks (get_or asks i d) ask (h d))
ask_from_search asks ask (Err i) up l h =
    let parts = h (searchable_from_sorted ask_cmp_total (λ (q : Ask). q) asks ask (sorted_asks asks up)) in
    λ k d in'. elim (cases_lt k i) [
      | inl low ↦ other_by ask (get_or asks k d) Less refl (parts.0 k d (omega arith) low)
      | inr high ↦ other_by ask (get_or asks k d) Greater refl (parts.1 k d high in')
    ]
