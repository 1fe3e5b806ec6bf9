-- What a function captures comes before its own locals, each once.
use Rattle.std.proofs.Common.{◌≡◌, ℕ, ◌<◌, ◌==◌, Bool, true, false, not, cond, nat_lt, List, [], ◌∷◌, filter, refl, ltb-true}
use Rattle.std.specs.List.{AllByRecursion, IsDistinct}
use Rattle.dscript_ast.specs.ExprTree.{ParamTree}
use Rattle.dscript_names_binding.specs.Walk.{Bound, each_once, function_of}
use Rattle.dscript_program.specs.BoundTree.{BodyData}
use Rattle.dscript_names.specs.Captures.{HasOuterCaptures}

all_filter : {X : Type 0} (P : X → Type 0) (test : X → Bool) (xs : List X) → AllByRecursion P xs
    → AllByRecursion P (filter test xs)
all_filter P test [] h = tt
all_filter P test (x ∷ xs) h =
    elim (test x) as (λ b. AllByRecursion P (cond b (x ∷ filter test xs) (filter test xs))) [
      | true ↦ (h.0, all_filter P test xs h.1)
      | false ↦ all_filter P test xs h.1
    ]

below_first : (first n : ℕ) (rest : List ℕ) (b : Bool) → nat_lt n first ≡ b → AllByRecursion (λ m. m < first) rest
    → AllByRecursion (λ m. m < first) (cond b (n ∷ rest) rest)
below_first first n rest true is h = (ltb-true n first is, h)
below_first first n rest false is h = h

those_below : (first : ℕ) (ns : List ℕ) → AllByRecursion (λ m. m < first) (filter (λ m. nat_lt m first) ns)
those_below first [] = tt
those_below first (n ∷ ns) =
    below_first first n (filter (λ m. nat_lt m first) ns) (nat_lt n first) refl (those_below first ns)

all_once : (P : ℕ → Type 0) (ns : List ℕ) → AllByRecursion P ns → AllByRecursion P (each_once ns)
all_once P [] h = tt
all_once P (n ∷ ns) h = (h.0, all_filter P (λ m. not (m == n)) (each_once ns) (all_once P ns h.1))

other_first : (n x : ℕ) (rest : List ℕ) (b : Bool) → (x == n) ≡ b → AllByRecursion (λ m. (m == n) ≡ false) rest
    → AllByRecursion (λ m. (m == n) ≡ false) (cond (not b) (x ∷ rest) rest)
other_first n x rest true is h = h
other_first n x rest false is h = (is, h)

others : (n : ℕ) (xs : List ℕ) → AllByRecursion (λ m. (m == n) ≡ false) (filter (λ m. not (m == n)) xs)
others n [] = tt
others n (x ∷ xs) = other_first n x (filter (λ m. not (m == n)) xs) (x == n) refl (others n xs)

distinct_filter : {X : Type 0} (e : X → X → Bool) (test : X → Bool) (xs : List X) → IsDistinct e xs
    → IsDistinct e (filter test xs)
unfolding IsDistinct
distinct_filter e test [] d = tt
distinct_filter e test (x ∷ xs) d =
    elim (test x) as (λ b. IsDistinct e (cond b (x ∷ filter test xs) (filter test xs))) [
      | true ↦ (all_filter (λ y. e x y ≡ false) test xs d.0, distinct_filter e test xs d.1)
      | false ↦ distinct_filter e test xs d.1
    ]

distinct_once : (ns : List ℕ) → IsDistinct (λ n m. m == n) (each_once ns)
unfolding IsDistinct
distinct_once [] = tt
distinct_once (n ∷ ns) = (
  others n (each_once ns),
  distinct_filter (λ n m. m == n) (λ m. not (m == n)) (each_once ns) (distinct_once ns),
)

pub captures_of : (file : ℕ) (params : List ParamTree) (first : ℕ) (b : Bound BodyData)
    → HasOuterCaptures (function_of file params first b)
captures_of file params first b =
    let outer = filter (λ m. nat_lt m first) b.names in
    (all_once (λ m. m < first) outer (those_below first b.names), distinct_once outer)
