-- Tests that find one element of a list.
use Rattle.std.proofs.Common.{◌≡◌, ◌↔◌, Bool, true, ◌||◌, IsTrue, List, [], ◌∷◌, refl, ap, sym, ◌∙◌, inl, inr}
use Rattle.std.specs.Bool.{Decides, one_answer}
use Rattle.std.specs.List.{Contains, list_any}
use Rattle.std.proofs.lemmas.Bool.{cases_Bool, false≢true}
use Rattle.bx_tree.specs.Orders.{same_path_decides}
use Rattle.bx_tree.specs.Paths.{Atoms, has_path, same_path}
use Rattle.bx_tree.specs.Members.{Has}
use Rattle.bx_tree.proofs.Sets.{contains_has, has_contained}
use Rattle.bx_tree.proofs.Members.{one_passes}

has_from_any : {X : Type 0} (p : X → Bool) (x : X) → ((y : X) → p y ≡ true → y ≡ x) → (xs : List X)
    → list_any p xs ≡ true → Has xs x
has_from_any p x only [] e = false≢true e
has_from_any p x only (y ∷ ys) e = elim (cases_Bool (p y)) [
  | inl h ↦ inl (only y h)
  | inr h ↦ inr (has_from_any p x only ys (sym (ap (λ b. b || list_any p ys) h) ∙ e))
]

-- an answer that says whether an element is in a list is that of a test which holds of this element alone
pub found_by_test : {X : Type 0} (p : X → Bool) (x : X) (xs : List X) (answer : Bool)
    → p x ≡ true → ((y : X) → p y ≡ true → y ≡ x) → IsTrue answer ↔ Contains xs x → answer ≡ list_any p xs
found_by_test p x xs answer holds only h = one_answer answer (list_any p xs) h (
  λ e. contains_has xs x (has_from_any p x only xs e),
  λ k. one_passes p xs x (has_contained xs x k) holds,
)

pub path_found : (path : Atoms) (paths : List Atoms) (answer : Bool) → IsTrue answer ↔ Contains paths path
    → answer ≡ list_any (same_path path) paths
path_found path paths answer h =
    found_by_test (same_path path) path paths answer ((same_path_decides path path).1 refl)
    (λ y e. sym ((same_path_decides path y).0 e)) h

pub has_path_from_answer : (paths : List Atoms) (path : Atoms) (answer : Bool) → IsTrue answer ↔ Contains paths path
    → answer ≡ has_path paths path
has_path_from_answer paths path answer h =
    found_by_test (λ p. same_path p path) path paths answer ((same_path_decides path path).1 refl)
    (λ y e. (same_path_decides y path).0 e) h

pub has_path_decides : (paths : List Atoms) (path : Atoms) → Decides (has_path paths path) (Contains paths path)
has_path_decides paths path = (
  λ e. contains_has paths path (has_from_any (λ p. same_path p path) path (λ y h. (same_path_decides y path).0 h) paths e),
  λ k. one_passes (λ p. same_path p path) paths path (has_contained paths path k) ((same_path_decides path path).1 refl),
)
