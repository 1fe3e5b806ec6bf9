-- What a search for a path found.
use Rattle.std.proofs.Common.{◌≡◌, ◌≢◌, ℕ, ◌<◌, Bool, not, true, false, List, [], ◌∷◌, ◌++◌, length, get_or, map, arith, Option, Some, None, refl, ap, sym, ◌∙◌, subst, append-nil}
use Rattle.std.specs.Prelude.{◌↔◌, All, Contains, IfSome, IsSome, MatchOption, slice_get}
use Rattle.std.specs.List.{HoldsAt}
use Rattle.std.proofs.lemmas.Bool.{false≢true}
use Rattle.std.proofs.lemmas.List.{get_or-map, get_or_read, length-map}
use Rattle.std.proofs.lemmas.List.Elements.{All-contains, All-map}
use Rattle.std.proofs.lemmas.Option.{slice_get-get_or}
use Rattle.bx_tree.specs.Paths.{Atoms, IsPath, path_text}
use Rattle.bx_tree.proofs.PathTexts.{same_from_text}
use Rattle.bx_tree_paths.specs.Searches.{IsSlotOf}

pub true_from_not : (b : Bool) → not b ≡ false → b ≡ true
true_from_not true e = refl
true_from_not false e = sym e

-- an item was found whose path has the text of the path, and so is the path
pub item_found : {X : Type 0} (path : X → Atoms) (items : List X) (p : Atoms) (place : ℕ) (b : Bool) (x : X)
    → IsSlotOf path (path_text p ++ []) items place b → b ≡ true → x ≡ get_or items place x → IsPath (path x) → IsPath p
    → (place < length items) × HoldsAt (λ y. path y ≡ p) items place
item_found path items p place b x h e is are_path is_path =
    let inside = (h.there e).0 in (
      inside,
      λ d. same_from_text (path (get_or items place d)) p
          (subst (λ y. IsPath (path y)) (get_or_read items place x inside is d) are_path) is_path
          ((h.there e).1 d ∙ append-nil (path_text p)),
    )

pub item_not_found : {X : Type 0} (path : X → Atoms) (items : List X) (p : Atoms) (place : ℕ) (b : Bool)
    → IsSlotOf path (path_text p ++ []) items place b → b ≡ false → All (λ y. path y ≢ p) items
item_not_found path items p place b h e k d less same = h.not_there e k d less (ap path_text same ∙ sym (append-nil (path_text p)))

-- ## In a list of paths

pub found_place : (paths : List Atoms) (p : Atoms) (r : Option ℕ)
    → MatchOption r (All (λ q. q ≢ p) paths) (λ place. (place < length paths) × HoldsAt (λ q. q ≡ p) paths place)
    → IfSome r (λ place. slice_get paths place ≡ Some p)
found_place paths p None h = tt
found_place paths p (Some place) h = slice_get-get_or paths place p h.0 ∙ ap Some (h.1 p)

pub found_there : (paths : List Atoms) (p : Atoms) (r : Option ℕ)
    → MatchOption r (All (λ q. q ≢ p) paths) (λ place. (place < length paths) × HoldsAt (λ q. q ≡ p) paths place)
    → IsSome r ↔ Contains paths p
found_there paths p None h = (λ e. absurd (false≢true e), λ c. absurd (All-contains (λ q. q ≢ p) paths p h c refl))
found_there paths p (Some place) h = (λ e. (place, h.0, h.1 p), λ c. refl)

-- ## In a list of things at paths

pub found_among : {X : Type 0} (path : X → Atoms) (items : List X) (p : Atoms) (r : Option ℕ)
    → MatchOption r (All (λ x. path x ≢ p) items) (λ place. (place < length items) × HoldsAt (λ x. path x ≡ p) items place)
    → IsSome r ↔ Contains (map path items) p
found_among path items p None h = (
  λ e. absurd (false≢true e),
  λ c. absurd (All-contains (λ q. q ≢ p) (map path items) p (All-map (λ q. q ≢ p) path items h) c refl),
)
found_among path [] p (Some place) h = absurd (omega (arith, h.0))
found_among path (x ∷ xs) p (Some place) h = (
  λ e. (place, omega (arith, h.0, length-map (x ∷ xs) path), get_or-map path (x ∷ xs) place x p h.0 ∙ h.1 x),
  λ c. refl,
)
