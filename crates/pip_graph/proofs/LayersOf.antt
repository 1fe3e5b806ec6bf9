-- The layers of pips, one pip after the other.
use Rattle.std.proofs.Common.{◌≡◌, ◌⊎◌, ℕ, ◌+◌, ◌<◌, ◌≤◌, zero, suc, List, [], ◌∷◌, ◌++◌, length, get_or, inl, inr, refl, ap, sym, ◌∙◌, subst, arith, length-append}
use Rattle.std.specs.Prelude.{Contains}
use Rattle.std.specs.List.{All}
use Rattle.std.proofs.lemmas.Bool.{cases_lt}
use Rattle.pip_model_types.specs.declared.pip.Pip.{Pip}
use Rattle.pip_model.specs.Edges.{Edge}
use Rattle.pip_model.specs.Plans.{AreInputs}
use Rattle.pip_graph.specs.Layers.{AreLayers, IsLayer}

before : (xs : List ℕ) (y k : ℕ) → k < length xs → get_or (xs ++ y ∷ []) k 0 ≡ get_or xs k 0
before [] y k l = absurd (omega (arith, l))
before (x ∷ xs) y zero l = refl
before (x ∷ xs) y (suc k) l = before xs y k (omega (arith, l))

here : (xs : List ℕ) (y k : ℕ) → k ≡ length xs → get_or (xs ++ y ∷ []) k 0 ≡ y
here [] y zero e = refl
here [] y (suc k) e = absurd (omega (arith, e))
here (x ∷ xs) y zero e = absurd (omega (arith, e))
here (x ∷ xs) y (suc k) e = here xs y k (omega (arith, e))

below_more : (k n : ℕ) → k < n + 1 → (k < n) ⊎ (k ≡ n)
below_more zero zero l = inr refl
below_more zero (suc n) l = inl (omega arith)
below_more (suc k) zero l = absurd (omega (arith, l))
below_more (suc k) (suc n) l = elim (below_more k n (omega (arith, l))) [ inl h ↦ inl (omega (arith, h)) | inr e ↦ inr (ap suc e) ]

-- what is known of the layers of the first pips
pub record LayersTo (pips : List Pip) (n : ℕ) (layers : List ℕ) : Type 0 where
  pub size : length layers ≡ n
  pub low : (k : ℕ) → k < length layers → get_or layers k 0 ≤ k
  pub smaller : (k j : ℕ) → k < n → Edge pips k j → j < k
  pub each : (k : ℕ) → k < n → IsLayer pips layers k (get_or layers k 0)

pub no_layers : (pips : List Pip) → LayersTo pips 0 []
no_layers pips = record {
  size = refl;
  low = λ k l. absurd (omega (arith, l));
  smaller = λ k j l e. absurd (omega (arith, l));
  each = λ k l. absurd (omega (arith, l));
}

-- a layer among more layers
among : (pips : List Pip) (layers : List ℕ) (y k layer : ℕ) → ((j : ℕ) → Edge pips k j → j < length layers) → IsLayer pips layers k layer
    → IsLayer pips (layers ++ y ∷ []) k layer
among pips layers y k layer within is = record {
  above = λ j e. subst (λ n. n < layer) (sym (before layers y j (within j e))) (is.above j e);
  lowest = lowest_among is.lowest;
}
  where
    lowest_among : (layer ≡ 0) ⊎ ((input : ℕ) × Edge pips k input × (layer ≡ suc (get_or layers input 0)))
        → (layer ≡ 0) ⊎ ((input : ℕ) × Edge pips k input × (layer ≡ suc (get_or (layers ++ y ∷ []) input 0)))
    lowest_among (inl e) = inl e
    lowest_among (inr (j, edge, e)) = inr (j, edge, e ∙ ap suc (sym (before layers y j (within j edge))))

-- the layer of a pip by those that it waits for
pub by_inputs : (pips : List Pip) (layers inputs : List ℕ) (n layer : ℕ) → AreInputs pips n inputs
    → ((j : ℕ) → Contains inputs j → get_or layers j 0 < layer)
    → (layer ≡ 0) ⊎ ((j : ℕ) × Contains inputs j × (layer ≡ suc (get_or layers j 0))) → IsLayer pips layers n layer
by_inputs pips layers inputs n layer are above lowest = record {
  above = λ j e. above j ((are.edges j).1 e);
  lowest = lowest_of lowest;
}
  where
    lowest_of : (layer ≡ 0) ⊎ ((j : ℕ) × Contains inputs j × (layer ≡ suc (get_or layers j 0)))
        → (layer ≡ 0) ⊎ ((j : ℕ) × Edge pips n j × (layer ≡ suc (get_or layers j 0)))
    lowest_of (inl e) = inl e
    lowest_of (inr (j, there, e)) = inr (j, (are.edges j).0 there, e)

-- ## The pips that a pip waits for, one after the other

pub above_more : (layers inputs : List ℕ) (i input below layer next : ℕ) → i < length inputs → input ≡ get_or inputs i 0 → below ≡ get_or layers input 0
    → (layer ≤ below → next ≡ suc below) → (below < layer → next ≡ layer)
    → ((k : ℕ) → k < i → get_or layers (get_or inputs k 0) 0 < layer)
    → (k : ℕ) → k < i + 1 → get_or layers (get_or inputs k 0) 0 < next
above_more layers inputs i input below layer next l is below_is up same so_far k h =
    elim (cases_lt below layer) [
      | inl low ↦ elim (below_more k i h) [
        | inl earlier ↦ let one = so_far k earlier in let e = same low in omega (arith, one, e)
        | inr here_is ↦ let e = same low in let at = at_input here_is in omega (arith, e, low, at)
      ]
      | inr high ↦ elim (below_more k i h) [
        | inl earlier ↦ let one = so_far k earlier in let e = up high in omega (arith, one, e, high)
        | inr here_is ↦ let e = up high in let at = at_input here_is in omega (arith, e, at)
      ]
    ]
  where
    at_input : k ≡ i → get_or layers (get_or inputs k 0) 0 ≡ below
    at_input e = ap (λ n. get_or layers (get_or inputs n 0) 0) e ∙ ap (λ n. get_or layers n 0) (sym is) ∙ sym below_is

-- a layer is no higher than the number of layers
pub small_more : (below layer next most : ℕ) → (layer ≤ below → next ≡ suc below) → (below < layer → next ≡ layer) → below < most → layer ≤ most → next ≤ most
small_more below layer next most up same within small = elim (cases_lt below layer) [
  | inl low ↦ let e = same low in omega (arith, e, small)
  | inr high ↦ let e = up high in omega (arith, e, within)
]

pub lowest_more : (layers inputs : List ℕ) (i input below layer next : ℕ) → i < length inputs → input ≡ get_or inputs i 0 → below ≡ get_or layers input 0
    → (layer ≤ below → next ≡ suc below) → (below < layer → next ≡ layer)
    → (layer ≡ 0) ⊎ ((j : ℕ) × Contains inputs j × (layer ≡ suc (get_or layers j 0)))
    → (next ≡ 0) ⊎ ((j : ℕ) × Contains inputs j × (next ≡ suc (get_or layers j 0)))
lowest_more layers inputs i input below layer next l is below_is up same so_far = elim (cases_lt below layer) [
  | inl low ↦ subst (λ n. (n ≡ 0) ⊎ ((j : ℕ) × Contains inputs j × (n ≡ suc (get_or layers j 0)))) (sym (same low)) so_far
  | inr high ↦ inr (input, (i, l, at_default inputs i input l is), up high ∙ ap suc below_is)
]
  where
    at_default : (xs : List ℕ) (k x : ℕ) → k < length xs → x ≡ get_or xs k 0 → get_or xs k x ≡ x
    at_default [] k x l e = absurd (omega (arith, l))
    at_default (y ∷ ys) zero x l e = sym e
    at_default (y ∷ ys) (suc k) x l e = at_default ys k x (omega (arith, l)) e

pub all_above : (layers inputs : List ℕ) (n layer : ℕ) → length inputs ≡ n → ((k : ℕ) → k < n → get_or layers (get_or inputs k 0) 0 < layer)
    → (j : ℕ) → Contains inputs j → get_or layers j 0 < layer
all_above layers inputs n layer e above j (k, l, is) =
    subst (λ x. get_or layers x 0 < layer) (same_default inputs k j l is) (above k (omega (arith, l, e)))
  where
    same_default : (xs : List ℕ) (k x : ℕ) → k < length xs → get_or xs k x ≡ x → get_or xs k 0 ≡ x
    same_default [] k x l e = absurd (omega (arith, l))
    same_default (y ∷ ys) zero x l e = e
    same_default (y ∷ ys) (suc k) x l e = same_default ys k x (omega (arith, l)) e

-- ## All pips

all_at : (inputs : List ℕ) (n j : ℕ) → All (λ input. input < n) inputs → Contains inputs j → j < n
all_at inputs n j all (k, l, e) = subst (λ x. x < n) e (all k j l)

pub one_layer : (pips : List Pip) (layers inputs : List ℕ) (n layer : ℕ) → LayersTo pips n layers → AreInputs pips n inputs → All (λ input. input < n) inputs
    → layer ≤ length layers → ((j : ℕ) → Contains inputs j → get_or layers j 0 < layer)
    → (layer ≡ 0) ⊎ ((j : ℕ) × Contains inputs j × (layer ≡ suc (get_or layers j 0))) → LayersTo pips (n + 1) (layers ++ layer ∷ [])
one_layer pips layers inputs n layer so_far are all small above lowest = record {
  size = length-append layers (layer ∷ []) ∙ ap (λ k. k + 1) so_far.size;
  low = λ k l. low_at k (below_more k (length layers) (let longer = length-append layers (layer ∷ []) in omega (arith, l, longer)));
  smaller = λ k j l e. smaller_at k j (below_more k n l) e;
  each = λ k l. each_at k (below_more k n l);
}
  where
    own : (j : ℕ) → Edge pips n j → j < n
    own j e = all_at inputs n j all ((are.edges j).1 e)

    low_at : (k : ℕ) → (k < length layers) ⊎ (k ≡ length layers) → get_or (layers ++ layer ∷ []) k 0 ≤ k
    low_at k (inl l) = subst (λ x. x ≤ k) (sym (before layers layer k l)) (so_far.low k l)
    low_at k (inr e) = subst (λ x. x ≤ k) (sym (here layers layer k e)) (omega (arith, small, e))

    smaller_at : (k j : ℕ) → (k < n) ⊎ (k ≡ n) → Edge pips k j → j < k
    smaller_at k j (inl l) edge = so_far.smaller k j l edge
    smaller_at k j (inr e) edge = subst (λ m. j < m) (sym e) (own j (subst (λ m. Edge pips m j) e edge))

    each_at : (k : ℕ) → (k < n) ⊎ (k ≡ n) → IsLayer pips (layers ++ layer ∷ []) k (get_or (layers ++ layer ∷ []) k 0)
    each_at k (inl l) =
        subst (IsLayer pips (layers ++ layer ∷ []) k) (sym (before layers layer k (omega (arith, l, so_far.size))))
        (among pips layers layer k (get_or layers k 0) (λ j e. let smaller = so_far.smaller k j l e in omega (arith, smaller, l, so_far.size)) (so_far.each k l))
    each_at k (inr e) =
        subst (IsLayer pips (layers ++ layer ∷ []) k) (sym (here layers layer k (e ∙ sym so_far.size)))
        (subst (λ m. IsLayer pips (layers ++ layer ∷ []) m layer) (sym e)
        (among pips layers layer n layer (λ j edge. let mine = own j edge in omega (arith, mine, so_far.size)) (by_inputs pips layers inputs n layer are above lowest)))

pub all_layers : (pips : List Pip) (n : ℕ) (layers : List ℕ) → LayersTo pips n layers → length pips ≡ n → AreLayers pips layers
all_layers pips n layers so_far e = record { size = so_far.size ∙ sym e; each = λ k l. so_far.each k (omega (arith, l, e)) }
