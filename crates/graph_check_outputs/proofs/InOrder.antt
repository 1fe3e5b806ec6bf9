-- Lists in the order of paths: parts of them, and what they have below a directory.
use Rattle.std.proofs.Common.{◌≡◌, ℕ, zero, suc, ◌+◌, ◌<◌, ◌≤◌, Bool, true, false, cond, List, [], ◌∷◌, length, filter, get_or, map, refl, ap, sym, ◌∙◌, subst, arith}
use Rattle.std.specs.List.{Any, Contains}
use Rattle.std.proofs.lemmas.List.{get_or_default, get_or-map, length-map}
use Rattle.bx_tree.specs.Below.{is_below}
use Rattle.bx_tree.specs.Paths.{Atoms, IsBelow}
use Rattle.bx_tree.specs.Ranges.{comes_before}
use Rattle.bx_tree.proofs.BelowPaths.{below_decides}
use Rattle.bx_tree_paths.specs.Searches.{RiseByText}

-- ## What passes a test

filter_has : {X : Type 0} (p : X → Bool) (xs : List X) (x : X) → p x ≡ true → Contains xs x → Contains (filter p xs) x
filter_has p [] x e (k, l, is) = absurd (omega (arith, l))
filter_has p (y ∷ ys) x e (zero, l, is) =
    subst (λ b. Contains (cond b (y ∷ filter p ys) (filter p ys)) x) (sym (ap p is ∙ e)) (0, omega arith, is)
filter_has p (y ∷ ys) x e (suc k, l, is) = grown (p y) (filter_has p ys x e (k, omega (arith, l), is))
  where
    grown : (b : Bool) → Contains (filter p ys) x → Contains (cond b (y ∷ filter p ys) (filter p ys)) x
    grown true (m, less, at) = (suc m, omega (arith, less), at)
    grown false c = c

filter_from : {X : Type 0} (p : X → Bool) (xs : List X) (x : X) → Contains (filter p xs) x → Contains xs x
filter_from p [] x c = c
filter_from p (y ∷ ys) x c = by_test (p y) c (filter_from p ys x)
  where
    by_test : (b : Bool) → Contains (cond b (y ∷ filter p ys) (filter p ys)) x → (Contains (filter p ys) x → Contains ys x) → Contains (y ∷ ys) x
    by_test true (zero, l, e) more = (0, omega arith, e)
    by_test true (suc k, l, e) more = let d = more (k, omega (arith, l), e) in (suc d.0, omega (arith, d.1), d.2)
    by_test false k more = let d = more k in (suc d.0, omega (arith, d.1), d.2)

-- what holds only below a directory holds in two lists that have the same below it
pub any_same : (P : Atoms → Type 0) (dir : Atoms) (xs ys : List Atoms) → ((p : Atoms) → P p → IsBelow p dir)
    → filter (λ p. is_below p dir) xs ≡ filter (λ p. is_below p dir) ys → Any P xs → Any P ys
any_same P dir xs ys only e (k, x, l, is, h) =
    let c = filter_has (λ p. is_below p dir) xs x ((below_decides x dir).1 (only x h)) (k, l, is) in
    let d = filter_from (λ p. is_below p dir) ys x (subst (λ zs. Contains zs x) e c) in
    (d.0, x, d.1, d.2, h)

-- ## Parts of lists that rise by path

module _ {X : Type 0} (path : X → Atoms) where
  rise_tail : (x : X) (xs : List X) → RiseByText path (x ∷ xs) → RiseByText path xs
  rise_tail x xs up text i j d low high before = up text (suc i) (suc j) d (omega (arith, low)) (omega (arith, high)) before

  rise_head : (x : X) (xs : List X) → RiseByText path (x ∷ xs) → (text : List ℕ) (y : X) → Contains xs y
      → comes_before text (path y) ≡ true → comes_before text (path x) ≡ true
  rise_head x xs up text y (k, l, e) before =
      up text 0 (suc k) y (omega arith) (omega (arith, l)) (ap (λ z. comes_before text (path z)) e ∙ before)

  rise_cons : (x : X) (xs : List X)
      → ((text : List ℕ) (y : X) → Contains xs y → comes_before text (path y) ≡ true → comes_before text (path x) ≡ true)
      → RiseByText path xs → RiseByText path (x ∷ xs)
  rise_cons x xs first up text zero zero d low high before = before
  rise_cons x xs first up text zero (suc j) d low high before =
      let l : j < length xs = omega (arith, high) in
      let at = get_or xs j d in
      first text at (j, l, sym (get_or_default xs j d at l)) before
  rise_cons x xs first up text (suc i) zero d low high before = absurd (omega (arith, low))
  rise_cons x xs first up text (suc i) (suc j) d low high before = up text i j d (omega (arith, low)) (omega (arith, high)) before

  pub rise_filter : (p : X → Bool) (xs : List X) → RiseByText path xs → RiseByText path (filter p xs)
  rise_filter p [] up = up
  rise_filter p (x ∷ xs) up = by_test (p x) (rise_filter p xs (rise_tail x xs up))
    where
      by_test : (b : Bool) → RiseByText path (filter p xs) → RiseByText path (cond b (x ∷ filter p xs) (filter p xs))
      by_test true more = rise_cons x (filter p xs) (λ text y c. rise_head x xs up text y (filter_from p xs y c)) more
      by_test false more = more

  pub rise_map : (xs : List X) → RiseByText path xs → RiseByText (λ p. p) (map path xs)
  rise_map [] up text i j d low high before = absurd (omega (arith, high))
  rise_map (x ∷ xs) up text i j d low high before =
      let all : List X = x ∷ xs in
      let long = length-map all path in
      let one = get_or-map path all i x d (omega (arith, low, high, long)) in
      let two = get_or-map path all j x d (omega (arith, high, long)) in
      ap (comes_before text) one ∙ up text i j x low (omega (arith, high, long)) (ap (comes_before text) (sym two) ∙ before)
