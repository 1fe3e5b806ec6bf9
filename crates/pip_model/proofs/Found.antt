-- Lists of pips as loops find them.
use Rattle.std.proofs.Common.{inl, inr, ◌≡◌, ℕ, ◌+◌, ◌<◌, List, [], ◌∷◌, ◌++◌, length, get_or, take, Some, ap, sym, ◌∙◌, subst, arith, append_assoc, append-nil, length-append}
use Rattle.std.specs.Prelude.{IsSomeAnd, slice_get}
use Rattle.std.specs.List.{Contains, HoldsAt, flat_map}
use Rattle.std.proofs.lemmas.Bool.{cases_lt}
use Rattle.std.proofs.lemmas.List.{take_more, get_or_at, get_or_append_left}
use Rattle.std.proofs.lemmas.List.Concat.{flat_map-append}
use Rattle.std.proofs.lemmas.Option.{slice_get-get_or}
use Rattle.pip_model_types.specs.declared.pip.Pip.{Pip}
use Rattle.pip_model.specs.Edges.{targets}
use Rattle.pip_model.specs.Inputs.{AreTargets}
use Rattle.pip_model.specs.Plans.{AreInputs}

-- one element more of a list that is gone through
pub more_found : {X : Type 0} (f : X → List ℕ) (xs : List X) (i : ℕ) (d : X) (start now next : List ℕ) → i < length xs
    → next ≡ now ++ f (get_or xs i d) → now ≡ start ++ flat_map f (take i xs) → next ≡ start ++ flat_map f (take (i + 1) xs)
more_found f xs i d start now next l e h =
    e ∙ ap (λ ys. ys ++ f (get_or xs i d)) h ∙ append_assoc start (flat_map f (take i xs)) (f (get_or xs i d))
    ∙ ap (λ ys. start ++ ys)
    (sym (ap (flat_map f) (take_more xs i d l) ∙ flat_map-append f (take i xs) (get_or xs i d ∷ [])
    ∙ ap (λ ys. flat_map f (take i xs) ++ ys) (append-nil (f (get_or xs i d)))))

-- what holds of each element by its place holds with one element more
pub holds_more : {X : Type 0} (P : ℕ → X → Type 0) (xs : List X) (x : X) → ((i : ℕ) → i < length xs → HoldsAt (P i) xs i) → P (length xs) x
    → (i : ℕ) → i < length (xs ++ x ∷ []) → HoldsAt (P i) (xs ++ x ∷ []) i
holds_more P xs x each last i l d = elim (cases_lt i (length xs)) [
  | inl old ↦ subst (P i) (sym (get_or_append_left xs (x ∷ []) d i old)) (each i old d)
  | inr end ↦
      let e : i ≡ length xs = omega (arith, l, end, length-append xs (x ∷ [])) in
      subst (P i) (sym (get_or_at xs x [] d i (sym e))) (subst (λ n. P n x) (sym e) last)
]

-- the element at a place is what is there
pub there : {X : Type 0} (xs : List X) (i : ℕ) (x : X) → i < length xs → x ≡ get_or xs i x → slice_get xs i ≡ Some x
there xs i x l e = slice_get-get_or xs i x l ∙ ap Some (sym e)

-- the targets of a pip, in order, are its inputs
pub inputs_at : (pips : List Pip) (i : ℕ) (pip : Pip) (inputs : List ℕ) → i < length pips → pip ≡ get_or pips i pip
    → AreTargets (targets pips pip.kind) inputs → AreInputs pips i inputs
inputs_at pips i pip inputs l e h =
    let at = there pips i pip l e in record {
      rising = h.rising;
      edges = λ j. (
        λ c. subst (λ o. IsSomeAnd o (λ (p : Pip). Contains (targets pips p.kind) j)) (sym at) ((h.members j).0 c),
        λ x. (h.members j).1 (subst (λ o. IsSomeAnd o (λ (p : Pip). Contains (targets pips p.kind) j)) at x),
      );
    }
