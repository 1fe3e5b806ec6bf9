-- What becomes of one list.
use Rattle.std.proofs.Common.{◌≡◌, ℕ, zero, suc, ◌≤◌, Bool, true, false, cond, nat_lt, List, [], ◌∷◌, ◌++◌, length, take, Option, Some, None, Result, Ok, Err, refl, sym, ap, ◌∙◌, subst, arith}
use Rattle.std.specs.Prelude.{◌==◌, OnOk}
use Rattle.std.specs.FinMap.{get}
use Rattle.std.specs.List.{AllByRecursion}
use Rattle.std.proofs.lemmas.List.{append-nil}
use Rattle.bx_io.specs.Holdings.{Change, Drop, Holdings, Put}
use Rattle.prints.specs.Reading.{◌>>=◌}
use Rattle.memo_format.specs.Selectors.{AreSelectors, IsSelector, read_selectors_text, selectors_text}
use Rattle.memo_format.specs.declared.selector.TheConstants.{MAX_SELECTORS}
use Rattle.memo_format.specs.declared.selector.Selector.{Selector}
use Rattle.two_phase_meaning.specs.Saving.{or_none, selectors_in}
use Rattle.cache_care.specs.Trimming.{AreTrims, IsListName, cut_to, list_change, read_at}
use Rattle.cache_care.proofs.Counted.{trims_both, trims_drop, trims_kept, trims_put, trims_same}

-- a list of which nothing is left is dropped
pub cut_none : (keep : ℕ) (name : List ℕ) (list cut : List Selector) → cut ≡ [] → cut_to keep name list cut ≡ Drop name ∷ []
cut_none keep name list [] e = refl
cut_none keep name list (s ∷ cut) e = absurd cc

-- one of which something is left is put where it was cut
pub cut_some : (keep : ℕ) (name : List ℕ) (list cut : List Selector) → (cut ≡ [] → ⊥)
    → cut_to keep name list cut ≡ cond (nat_lt keep (length list)) (Put name (selectors_text cut) ∷ []) []
cut_some keep name list [] some = absurd (some refl)
cut_some keep name list (s ∷ cut) some = refl

-- the first of selectors are selectors
first_each : (keep : ℕ) (list : List Selector) → AllByRecursion IsSelector list → AllByRecursion IsSelector (take keep list)
first_each zero list h = tt
first_each (suc n) [] h = tt
first_each (suc n) (s ∷ list) h = (h.0, first_each n list h.1)

first_few : (keep : ℕ) (list : List Selector) → length (take keep list) ≤ length list
first_few zero list = omega arith
first_few (suc n) [] = omega arith
first_few (suc n) (s ∷ list) = let l = first_few n list in omega (arith, l)

pub first_selectors : (keep : ℕ) (list cut shown : List Selector) → length list ≤ MAX_SELECTORS → AllByRecursion IsSelector list → cut ≡ take keep list
    → shown ≡ cut → AreSelectors shown
first_selectors keep list cut shown few each taken same =
    subst AreSelectors (sym (same ∙ taken)) (record {
      few = let l = first_few keep list in omega (arith, l, few);
      each = first_each keep list each;
    })

-- ## As trims of its name

pub trims_dropped : (names : List (List ℕ)) (name : List ℕ) (before now : List Change) → now ≡ before ++ Drop name ∷ [] → AreTrims names before
    → AreTrims (names ++ name ∷ []) now
trims_dropped names name before now is h =
    trims_same (names ++ name ∷ []) (before ++ Drop name ∷ []) now (sym is) (trims_both names (name ∷ []) before (Drop name ∷ []) h (trims_drop name))

pub trims_unchanged : (names : List (List ℕ)) (name : List ℕ) (before now : List Change) → now ≡ before → AreTrims names before
    → AreTrims (names ++ name ∷ []) now
trims_unchanged names name before now is h =
    trims_same (names ++ name ∷ []) (before ++ []) now (append-nil before ∙ sym is) (trims_both names (name ∷ []) before [] h (trims_kept name))

pub trims_cut : (names : List (List ℕ)) (name : List ℕ) (list : List Selector) (b : Bool) (before now : List Change) → IsListName name → AreSelectors list
    → now ≡ before ++ cond b (Put name (selectors_text list) ∷ []) [] → AreTrims names before → AreTrims (names ++ name ∷ []) now
trims_cut names name list b before now is ok made h =
    trims_same (names ++ name ∷ []) (before ++ cond b (Put name (selectors_text list) ∷ []) []) now (sym made)
    (trims_both names (name ∷ []) before (cond b (Put name (selectors_text list) ∷ []) []) h (by_cut b))
  where
    by_cut : (t : Bool) → AreTrims (name ∷ []) (cond t (Put name (selectors_text list) ∷ []) [])
    by_cut true = trims_put name list is ok
    by_cut false = trims_kept name

pub trims_if : (names : List (List ℕ)) (name : List ℕ) (b : Bool) (before now : List Change) → now ≡ before ++ cond b [] (Drop name ∷ [])
    → AreTrims names before → AreTrims (names ++ name ∷ []) now
trims_if names name b before now made h =
    trims_same (names ++ name ∷ []) (before ++ cond b [] (Drop name ∷ [])) now (sym made)
    (trims_both names (name ∷ []) before (cond b [] (Drop name ∷ [])) h (by_drop b))
  where
    by_drop : (t : Bool) → AreTrims (name ∷ []) (cond t [] (Drop name ∷ []))
    by_drop true = trims_kept name
    by_drop false = trims_drop name

-- ## By what is held

-- what is read of a text that is held
pub read_held : (S : Holdings) (name text : List ℕ) (o : Option (List Selector)) → get S name ≡ Some text → read_selectors_text text ≡ o
    → read_at S name ≡ o
read_held S name text o held is = ap (λ (x : Option (List ℕ)). x >>= read_selectors_text) held ∙ is

pub read_none : (S : Holdings) (name : List ℕ) → get S name ≡ None → read_at S name ≡ None
read_none S name none = ap (λ (x : Option (List ℕ)). x >>= read_selectors_text) none

pub in_held : (S : Holdings) (name text : List ℕ) (o : Option (List Selector)) → get S name ≡ Some text → read_selectors_text text ≡ o
    → selectors_in (get S name) ≡ or_none o
in_held S name text o held is = ap selectors_in held ∙ ap or_none is

pub in_none : (S : Holdings) (name : List ℕ) → get S name ≡ None → selectors_in (get S name) ≡ []
in_none S name none = ap selectors_in none

-- ## By a test

pub kept_changes : (b : Bool) (name : List ℕ) (before now : List Change) → b ≡ true → now ≡ before → now ≡ before ++ cond b [] (Drop name ∷ [])
kept_changes b name before now is same = same ∙ sym (append-nil before) ∙ ap (λ t. before ++ cond t [] (Drop name ∷ [])) (sym is)

pub dropped_changes : (b : Bool) (name : List ℕ) (before now : List Change) → b ≡ false → now ≡ before ++ Drop name ∷ []
    → now ≡ before ++ cond b [] (Drop name ∷ [])
dropped_changes b name before now is made = made ∙ ap (λ t. before ++ cond t [] (Drop name ∷ [])) (sym is)

-- ## As calls answer

pub dropped_result : {E : Type 0} (r : Result (Unit {0}) E) (name : List ℕ) (before now : List Change) → OnOk r (now ≡ before ++ Drop name ∷ [])
    → OnOk r ((names : List (List ℕ)) → AreTrims names before → AreTrims (names ++ name ∷ []) now)
dropped_result (Ok x) name before now made = λ names h. trims_dropped names name before now made h
dropped_result (Err e) name before now made = tt

pub cut_trims : {E : Type 0} (r : Result (Unit {0}) E) (name : List ℕ) (list : List Selector) (b : Bool) (before now : List Change) → IsListName name → AreSelectors list
    → now ≡ before ++ cond b (Put name (selectors_text list) ∷ []) []
    → OnOk r ((names : List (List ℕ)) → AreTrims names before → AreTrims (names ++ name ∷ []) now)
cut_trims (Ok x) name list b before now is ok made = λ names h. trims_cut names name list b before now is ok made h
cut_trims (Err e) name list b before now is ok made = tt

pub some_left : (n : ℕ) (cut : List Selector) (b : Bool) → b ≡ (n == 0) → b ≡ false → n ≡ length cut → cut ≡ [] → ⊥
some_left n cut b tested is long none =
    let nothing : n ≡ 0 = long ∙ ap (λ (xs : List Selector). length xs) none in
    let yes : b ≡ true = tested ∙ ap (λ m. m == 0) nothing in
    let never : true ≡ false = sym yes ∙ is in
    absurd cc

pub cut_changes : {E : Type 0} (r : Result (Unit {0}) E) (keep : ℕ) (name : List ℕ) (list cut shown : List Selector) (b : Bool) (before now : List Change)
    → cut ≡ take keep list → shown ≡ cut → (cut ≡ [] → ⊥) → b ≡ nat_lt keep (length list)
    → now ≡ before ++ cond b (Put name (selectors_text shown) ∷ []) [] → OnOk r (now ≡ before ++ cut_to keep name list (take keep list))
cut_changes (Err e) keep name list cut shown b before now taken same some tested made = tt
cut_changes (Ok x) keep name list cut shown b before now taken same some tested made =
    made
    ∙ ap (λ (cs : List Change). before ++ cs)
    (ap (λ (xs : List Selector). cond b (Put name (selectors_text xs) ∷ []) []) same
    ∙ ap (λ t. cond t (Put name (selectors_text cut) ∷ []) []) tested ∙ sym (cut_some keep name list cut some)
    ∙ ap (λ (xs : List Selector). cut_to keep name list xs) taken)

pub trims_if_result : {E : Type 0} (r : Result (Unit {0}) E) (name : List ℕ) (b : Bool) (before now : List Change)
    → OnOk r (now ≡ before ++ cond b [] (Drop name ∷ [])) → OnOk r ((names : List (List ℕ)) → AreTrims names before → AreTrims (names ++ name ∷ []) now)
trims_if_result (Ok x) name b before now made = λ names h. trims_if names name b before now made h
trims_if_result (Err e) name b before now made = tt

pub on_ok : {E : Type 0} (r : Result (Unit {0}) E) (P : Type 0) → P → OnOk r P
on_ok (Ok x) P p = p
on_ok (Err e) P p = tt

pub on_more : {E : Type 0} (r : Result (Unit {0}) E) (P Q : Type 0) → (P → Q) → OnOk r P → OnOk r Q
on_more (Ok x) P Q f p = f p
on_more (Err e) P Q f p = tt
