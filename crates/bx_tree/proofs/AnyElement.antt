-- Whether a property holds of some element of a list, or of its image under a function.
use Rattle.std.proofs.Common.{◌≡◌, ℕ, ◌<◌, Bool, true, false, List, [], ◌∷◌, length, get_or, map, refl, ap, sym, ◌∙◌, subst, arith, MatchBool}
use Rattle.std.specs.List.{Any, AllWithin, HoldsAt}
use Rattle.std.proofs.lemmas.Bool.{false≢true}
use Rattle.std.proofs.lemmas.List.{length-map, get_or-map, get_or_default}

-- the answer of `any`, as `Any`
pub any_or_none : {X : Type 0} (P : X → Type 0) (r : Bool) (xs : List X)
    → MatchBool r ((k : ℕ) × (k < length xs) × HoldsAt P xs k) (AllWithin (λ x. P x → ⊥) xs 0 (length xs))
    → ((r ≡ true) → Any P xs) × (Any P xs → r ≡ true)
any_or_none P true [] h = absurd (omega (arith, h.1))
any_or_none P true (x ∷ xs) h =
    (λ _. (h.0, get_or (x ∷ xs) h.0 x, h.1, get_or_default (x ∷ xs) h.0 (get_or (x ∷ xs) h.0 x) x h.1, h.2 x), λ _. refl)
any_or_none P false xs h = (
  λ e. absurd (false≢true e),
  λ (k, x, l, e, p). absurd (h k x (omega arith) l (subst P (sym e) p)),
)

pub Any-map : {X Y : Type 0} (f : X → Y) (P : Y → Type 0) (xs : List X) → Any (λ x. P (f x)) xs → Any P (map f xs)
Any-map f P xs (k, x, l, e, p) =
    (k, f x, subst (λ n. k < n) (sym (length-map xs f)) l, get_or-map f xs k x (f x) l ∙ ap f e, p)

pub Any-from_map : {X Y : Type 0} (f : X → Y) (P : Y → Type 0) (xs : List X) → Any P (map f xs) → Any (λ x. P (f x)) xs
Any-from_map f P [] (k, y, l, e, p) = absurd (omega (arith, l))
Any-from_map f P (x ∷ xs) (k, y, l, e, p) =
    let in' : k < length (x ∷ xs) = subst (λ n. k < n) (length-map (x ∷ xs) f) l in (
      k,
      get_or (x ∷ xs) k x,
      in',
      get_or_default (x ∷ xs) k (get_or (x ∷ xs) k x) x in',
      subst P (sym e ∙ get_or-map f (x ∷ xs) k x y in') p,
    )
