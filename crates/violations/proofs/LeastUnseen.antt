-- The least pip that can produce a path: none that can is less than it.
use Rattle.std.proofs.Common.{◌≡◌, ℕ, zero, suc, ◌+◌, ◌<◌, ◌≤◌, ◌==◌, Bool, true, false, not, ◌&&◌, List, [], ◌∷◌, ◌++◌, length, take, drop, get_or, Option, Some, None, ap, arith, sym, refl, ◌∙◌, inl, inr, nat_lt, subst}
use Rattle.std.specs.Prelude.{slice_get, Contains, IfSome}
use Rattle.std.specs.Option.{option_map_or}
use Rattle.std.proofs.lemmas.Bool.{cases_Bool, cond-true, cond-false}
use Rattle.std.proofs.lemmas.List.{drop-drop, drop_all, take_more}
use Rattle.std.proofs.lemmas.List.Elements.{Contains-push_cases, at_from_Contains}
use Rattle.std.proofs.lemmas.Option.{slice_get_within}
use Rattle.bx_tree.specs.Paths.{Atoms}
use Rattle.pip_model_types.specs.declared.dir_inputs.DirInput.{DirInput}
use Rattle.pip_model_types.specs.declared.pip.Pip.{Pip}
use Rattle.pip_model.specs.Outputs.{numbers_from}
use Rattle.violations.specs.Least.{Covers, CoversAbove, IsAtMost, Passes, Stays, is_less, is_producer, least_with}
use Rattle.violations.specs.Producing.{least_unseen, produces_unseen}

-- ## The least of some numbers

-- a number that is less than what was found is not greater than what that was not greater than
less_stays : (n : ℕ) (found : Option ℕ) → is_less n found ≡ true → (j : ℕ) → IsAtMost found j → n ≤ j
less_stays n None less j h = absurd h
less_stays n (Some least) less j h = grind (arith, less, h)

-- what was found is not greater than a number that is not less
not_less : (n : ℕ) (found : Option ℕ) → is_less n found ≡ false → IsAtMost found n
not_less n None less = absurd (cc)
not_less n (Some least) less = grind (arith, less)

at_most_self : (n j : ℕ) → n ≡ j → n ≤ j
at_most_self n j e = omega (arith, e)

-- one more of the numbers is tried
more_covered : (test : ℕ → Bool) (numbers : List ℕ) (i n : ℕ) (found : Option ℕ) → i < length numbers → n ≡ get_or numbers i n
    → ((j : ℕ) → Contains (take i numbers) j → test j ≡ true → IsAtMost found j) → (test n ≡ true → IsAtMost found n)
    → Covers test (take (i + 1) numbers) found
more_covered test numbers i n found l is before here j c passes =
    let more : Contains (take i numbers ++ get_or numbers i n ∷ []) j =
    subst (λ (ns : List ℕ). Contains ns j) (take_more numbers i n l) c in
    elim (Contains-push_cases (take i numbers) (get_or numbers i n) j more) [
      | inl old ↦ before j old passes
      | inr same ↦
          let e : n ≡ j = is ∙ same in
          subst (λ k. IsAtMost found k) e (here (ap test e ∙ passes))
    ]

taken : (test : ℕ → Bool) (n : ℕ) (found : Option ℕ) → (is_less n found && test n) ≡ true → (is_less n found ≡ true) × (test n ≡ true)
taken test n found e = elim (cases_Bool (is_less n found)) [
  | inl less ↦ (less, sym (ap (λ b. b && test n) less) ∙ e)
  | inr more ↦
      let fails : (is_less n found && test n) ≡ false = ap (λ b. b && test n) more in
      absurd (cc)
]

pub with_passes : (test : ℕ → Bool) (n : ℕ) (found : Option ℕ) → Passes test found → Passes test (least_with test n found)
with_passes test n found h = elim (cases_Bool (is_less n found && test n)) [
  | inl t ↦
      subst (Passes test) (sym (cond-true (is_less n found && test n) (Some n) found t)) ((taken test n found t).1)
  | inr f ↦ subst (Passes test) (sym (cond-false (is_less n found && test n) (Some n) found f)) h
]

pub with_stays : (test : ℕ → Bool) (n : ℕ) (before found : Option ℕ) → Stays before found → Stays before (least_with test n found)
with_stays test n before found h = elim (cases_Bool (is_less n found && test n)) [
  | inl t ↦
      subst (Stays before) (sym (cond-true (is_less n found && test n) (Some n) found t))
      (λ j at. less_stays n found (taken test n found t).0 j (h j at))
  | inr f ↦ subst (Stays before) (sym (cond-false (is_less n found && test n) (Some n) found f)) h
]

pub with_covers : (test : ℕ → Bool) (numbers : List ℕ) (i n : ℕ) (found : Option ℕ) → i < length numbers → n ≡ get_or numbers i n
    → Covers test (take i numbers) found → Covers test (take (i + 1) numbers) (least_with test n found)
with_covers test numbers i n found l is h = elim (cases_Bool (is_less n found && test n)) [
  | inl t ↦
      let less = (taken test n found t).0 in
      subst (Covers test (take (i + 1) numbers)) (sym (cond-true (is_less n found && test n) (Some n) found t))
      (more_covered test numbers i n (Some n) l is (λ j c passes. less_stays n found less j (h j c passes)) (λ passes. at_most_self n n refl))
  | inr f ↦
      subst (Covers test (take (i + 1) numbers)) (sym (cond-false (is_less n found && test n) (Some n) found f))
      (more_covered test numbers i n found l is h (λ passes.
      not_less n found (elim (cases_Bool (is_less n found)) [
        | inl less ↦
            let both : (is_less n found && test n) ≡ true = ap (λ b. b && test n) less ∙ passes in
            absurd (cc)
        | inr more ↦ more
      ])))
]

pub none_covered : (test : ℕ → Bool) (found : Option ℕ) → Covers test [] found
none_covered test found j c passes =
    let (k, l, at) = at_from_Contains [] j c in absurd (omega (arith, l))

-- one more place of the text is tried
pub above_more : (test : ℕ → Bool) (pips : List Pip) (text : List ℕ) (at : ℕ) (before now : Option ℕ)
    → CoversAbove test pips text at before → Stays before now
    → (get_or text at 0 ≡ 47 → Covers test (numbers_from 0 (take at text) pips) now)
    → CoversAbove test pips text (at + 1) now
above_more test pips text at before now above stays here k l slash j c passes =
    elim (cases_Bool (nat_lt k at)) [
      | inl less ↦ stays j (above k (grind (arith, less)) slash j c passes)
      | inr more ↦
          let same : k ≡ at = grind (arith, more, l) in
          here (ap (λ n. get_or text n 0) (sym same) ∙ slash) j
          (subst (λ n. Contains (numbers_from 0 (take n text) pips) j) same c) passes
    ]

pub none_above : (test : ℕ → Bool) (pips : List Pip) (text : List ℕ) (found : Option ℕ) → CoversAbove test pips text 0 found
none_above test pips text found k l = absurd (omega (arith, l))

-- ## The least of all pips

-- the pip that comes next in what is left
next_at : (pips more : List Pip) (pip : Pip) (j : ℕ) → drop j pips ≡ pip ∷ more → slice_get pips j ≡ Some pip
next_at [] more pip j e =
    let nil : List Pip = [] in
    let none : drop j nil ≡ [] = drop_all j nil (omega arith) in
    absurd (cc)
next_at (p ∷ pips) more pip zero e = cc
next_at (p ∷ pips) more pip (suc j) e = next_at pips more pip j e

left_after : (pips more : List Pip) (pip : Pip) (j : ℕ) → drop j pips ≡ pip ∷ more → drop (j + 1) pips ≡ more
left_after pips more pip j e = sym (drop-drop 1 j pips) ∙ ap (drop 1) e

none_there : (pips : List Pip) (j k : ℕ) → drop j pips ≡ [] → j ≤ k → slice_get pips k ≡ None
none_there [] j k e l = refl
none_there (p ∷ pips) zero k e l = absurd (cc)
none_there (p ∷ pips) (suc j) zero e l = absurd (omega (arith, l))
none_there (p ∷ pips) (suc j) (suc k) e l = none_there pips j k e (omega (arith, l))

module _ (dirs : List DirInput) (i : ℕ) (path : Atoms) (pips : List Pip) where
  abbrev test : ℕ → Bool
  test = is_producer dirs i path pips

  abbrev Exact : Option ℕ → Type 0
  Exact found = (j : ℕ) → test j ≡ true → IsAtMost found j

  -- what was found is not among the pips that were tried in vain
  not_before : (found : Option ℕ) (j : ℕ) → Passes test found → ((k : ℕ) → k < j → test k ≡ false)
      → (l : ℕ) → found ≡ Some l → j ≤ l
  not_before found j passes tried l e =
      let passed : test l ≡ true = subst (Passes test) e passes in
      elim (cases_Bool (nat_lt l j)) [
        | inl less ↦ let fails : test l ≡ false = tried l (grind (arith, less)) in absurd (cc)
        | inr more ↦ grind (arith, more)
      ]

  none_found : (found : Option ℕ) (j : ℕ) → Passes test found → ((k : ℕ) → k < j → test k ≡ false) → drop j pips ≡ [] → found ≡ None
  none_found None j passes tried end = refl
  none_found (Some l) j passes tried end =
      let at : j ≤ l = not_before (Some l) j passes tried l refl in
      let none : slice_get pips l ≡ None = none_there pips j l end at in
      let fails : test l ≡ false =
      ap (λ (o : Option Pip). option_map_or (λ (pip : Pip). not (l == i) && produces_unseen dirs l path pip.kind) o false) none in
      absurd (cc)

  found_here : (found : Option ℕ) (j : ℕ) → Passes test found → ((k : ℕ) → k < j → test k ≡ false) → IsAtMost found j → found ≡ Some j
  found_here None j passes tried most = absurd most
  found_here (Some l) j passes tried most =
      let least : j ≤ l = not_before (Some l) j passes tried l refl in
      let same : l ≡ j = omega (arith, most, least) in
      ap Some same

  tried_more : (j : ℕ) → ((k : ℕ) → k < j → test k ≡ false) → test j ≡ false → (k : ℕ) → k < j + 1 → test k ≡ false
  tried_more j tried here k l =
      elim (cases_Bool (nat_lt k j)) [
        | inl less ↦ tried k (grind (arith, less))
        | inr more ↦
            let same : k ≡ j = grind (arith, more, l) in
            ap test same ∙ here
      ]

  from : (found : Option ℕ) → Passes test found → Exact found
      → (rest : List Pip) (j : ℕ) → drop j pips ≡ rest → ((k : ℕ) → k < j → test k ≡ false)
      → found ≡ least_unseen dirs i path j rest
  from found passes exact [] j left tried = none_found found j passes tried left
  from found passes exact (pip ∷ rest) j left tried =
      let at : slice_get pips j ≡ Some pip = next_at pips rest pip j left in
      let is : test j ≡ (not (j == i) && produces_unseen dirs j path pip.kind) =
      ap (λ (o : Option Pip). option_map_or (λ (p : Pip). not (j == i) && produces_unseen dirs j path p.kind) o false) at in
      let later = least_unseen dirs i path (j + 1) rest in
      elim (cases_Bool (not (j == i) && produces_unseen dirs j path pip.kind)) [
        | inl t ↦
            found_here found j passes tried (exact j (is ∙ t))
            ∙ sym (cond-true (not (j == i) && produces_unseen dirs j path pip.kind) (Some j) later t)
        | inr f ↦
            from found passes exact rest (j + 1) (left_after pips rest pip j left) (tried_more j tried (is ∙ f))
            ∙ sym (cond-false (not (j == i) && produces_unseen dirs j path pip.kind) (Some j) later f)
      ]

  -- what passes and is not greater than any other that passes is the least
  pub least_is : (found : Option ℕ) → Passes test found → Exact found → found ≡ least_unseen dirs i path 0 pips
  least_is found passes exact = from found passes exact pips 0 refl (λ k l. absurd (omega (arith, l)))

  pub there : (found : Option ℕ) → Passes test found → IfSome found (λ j. j < length pips)
  there None passes = tt
  there (Some j) passes = elim (slice_get pips j) as (λ o. slice_get pips j ≡ o → j < length pips) [
    | None ↦ λ e.
        let fails : test j ≡ false =
        ap (λ (o : Option Pip). option_map_or (λ (pip : Pip). not (j == i) && produces_unseen dirs j path pip.kind) o false) e in
        absurd (cc)
    | Some pip ↦ λ e. slice_get_within pips j pip e
  ] refl
