-- Whether the pips succeeded for which a pip waits.
use Rattle.std.proofs.Common.{◌≡◌, ◌<◌, ◌≤◌, ℕ, ◌+◌, Bool, true, false, ◌&&◌, List, length, drop, get_or, Option, Some, None, refl, ap, sym, ◌∙◌, subst, inl, inr, add-one}
use Rattle.std.specs.Prelude.{◌↔◌, Contains, IsSomeAnd, slice_get}
use Rattle.std.specs.List.{list_all}
use Rattle.std.proofs.lemmas.Bool.{cases_Bool, false≢true}
use Rattle.std.proofs.lemmas.List.{drop_all}
use Rattle.std.proofs.lemmas.Option.{slice_get-get_or}
use Rattle.std.proofs.Math.Seq.{drop-cons}
use Rattle.bx_tree.proofs.Sets.{contains_has, has_contained}
use Rattle.bx_tree.proofs.Lists.{no_such_place}
use Rattle.bx_tree.proofs.Members.{all_pass, passes_all}
use Rattle.pip_model_types.specs.declared.made.Slot.{Slot}
use Rattle.pip_model_types.specs.declared.pip.Pip.{Pip}
use Rattle.pip_model.specs.Edges.{targets}
use Rattle.pip_model.specs.Plans.{AreInputs}
use Rattle.one_thread.specs.Views.{good_at, good_in, is_good_slot}

-- ## Tests of all elements

-- lists with one set of members pass a test together
same_all : (p : ℕ → Bool) (xs ys : List ℕ) → ((j : ℕ) → Contains xs j ↔ Contains ys j) → list_all p xs ≡ list_all p ys
same_all p xs ys same = elim (cases_Bool (list_all p xs)) [
  | inl passes ↦ passes ∙ sym (all_pass p ys (λ j h. passes_all p xs j passes (has_contained xs j ((same j).1 (contains_has ys j h)))))
  | inr fails ↦ elim (cases_Bool (list_all p ys)) [
    | inr both ↦ fails ∙ sym both
    | inl passes ↦
        absurd (false≢true (sym fails ∙ all_pass p xs (λ j h. passes_all p ys j passes (has_contained ys j ((same j).0 (contains_has xs j h))))))
  ]
]

-- ## One input after the other

abbrev good_from : List Slot → List ℕ → Bool
good_from ss js = list_all (λ j. good_in (slice_get ss j)) js

good_next : (ss : List Slot) (js : List ℕ) (n : ℕ) → n < length js
    → good_from ss (drop n js) ≡ (good_in (slice_get ss (get_or js n 0)) && good_from ss (drop (n + 1) js))
good_next ss js n l =
    ap (good_from ss) (drop-cons js n 0 l)
    ∙ ap (λ m. good_in (slice_get ss (get_or js n 0)) && good_from ss (drop m js)) (sym (add-one n))

slot_good : (ss : List Slot) (j : ℕ) (s : Slot) → j < length ss → s ≡ get_or ss j s → good_in (slice_get ss j) ≡ is_good_slot s
slot_good ss j s l is = ap good_in (slice_get-get_or ss j s l ∙ ap Some (sym is))

pub good_passed : (ss : List Slot) (js : List ℕ) (n : ℕ) (s : Slot) → n < length js → get_or js n 0 < length ss → s ≡ get_or ss (get_or js n 0) s
    → is_good_slot s ≡ true → good_from ss (drop n js) ≡ good_from ss (drop (n + 1) js)
good_passed ss js n s l k is good =
    good_next ss js n l ∙ ap (λ b. b && good_from ss (drop (n + 1) js)) (slot_good ss (get_or js n 0) s k is ∙ good)

pub good_stopped : (ss : List Slot) (js : List ℕ) (n : ℕ) (s : Slot) → n < length js → get_or js n 0 < length ss → s ≡ get_or ss (get_or js n 0) s
    → is_good_slot s ≡ false → good_from ss (drop n js) ≡ false
good_stopped ss js n s l k is bad =
    good_next ss js n l ∙ ap (λ b. b && good_from ss (drop (n + 1) js)) (slot_good ss (get_or js n 0) s k is ∙ bad)

pub good_to_end : (ss : List Slot) (js : List ℕ) (n : ℕ) → length js ≤ n → good_from ss (drop n js) ≡ true
good_to_end ss js n l = ap (good_from ss) (drop_all n js l)

-- ## The inputs of a pip

-- the inputs that a plan keeps of a pip are those for which it waits
pub inputs_good : (pips : List Pip) (i : ℕ) (ss : List Slot) (ins : List ℕ) → AreInputs pips i ins → i < length pips
    → good_from ss ins ≡ good_at pips (slice_get pips i) ss
inputs_good pips i ss ins are l = by_pip (slice_get pips i) refl
  where
    by_pip : (o : Option Pip) → slice_get pips i ≡ o → good_from ss ins ≡ good_at pips o ss
    by_pip None e = absurd (no_such_place pips i l e)
    by_pip (Some pip) e = same_all (λ j. good_in (slice_get ss j)) ins (targets pips pip.kind) (λ j. (
      λ h. subst (λ p. IsSomeAnd p (λ (pip : Pip). Contains (targets pips pip.kind) j)) e ((are.edges j).0 h),
      λ h. (are.edges j).1 (subst (λ p. IsSomeAnd p (λ (pip : Pip). Contains (targets pips pip.kind) j)) (sym e) h),
    ))
