-- The items between two texts are next to one another in a list that rises by path.
use Rattle.std.proofs.Common.{append_assoc, append-nil, ◌≡◌, ℕ, ◌+◌, ◌-◌, ◌<◌, ◌≤◌, Bool, true, false, List, [], ◌∷◌, ◌++◌, length, drop, get_or, map, take, refl, ap, sym, ◌∙◌, subst, inl, inr, arith}
use Rattle.std.specs.Prelude.{Contains, slice_range}
use Rattle.std.specs.Cmp.Lexicographic.{slice_cmp}
use Rattle.std.specs.Ordering.{is_lt, nat_cmp, ordering_then}
use Rattle.std.proofs.lemmas.Bool.{cases_lt, false≢true}
use Rattle.std.proofs.lemmas.Cmp.{nat_cmp_total, nat_list_cmp_total, tied_itself}
use Rattle.std.proofs.lemmas.List.{get_or-drop, get_or-map, get_or-take, length-drop, length-map, length-take}
use Rattle.bx_tree.specs.Paths.{Atoms, path_text}
use Rattle.bx_tree_paths.specs.Searches.{IsSlotOf}
use Rattle.bx_tree_paths.specs.Spans.{IsBetween, IsSpanOf}
use Rattle.bx_tree_paths.proofs.Spans.{before_next, not_before}

-- ## A search for both texts

module _ {X : Type 0} (path : X → Atoms) (low high : List ℕ) (items : List X) where
  -- the items from where one text belongs to where the other does
  pub between_slots : (from to : ℕ) (a b : Bool) → from ≤ to → IsSlotOf path low items from a → IsSlotOf path high items to b
      → IsSpanOf (λ x. IsBetween low high (path x)) items from to
  between_slots from to a b order first last = record {
    order = order;
    within = last.within;
    inside = λ k d above below.
        (first.point.1 k d above (omega (arith, below, last.within)), last.point.0 k d (omega arith) below);
    before = λ k d above below is. absurd (false≢true (sym is.0 ∙ first.point.0 k d above below));
    after = λ k d above below is. absurd (false≢true (sym (last.point.1 k d above below) ∙ is.1));
  }

  -- no items, where the later text is no later
  pub none_between : (from to : ℕ) (a b : Bool) → to ≤ from → IsSlotOf path low items from a → IsSlotOf path high items to b
      → IsSpanOf (λ x. IsBetween low high (path x)) items from from
  none_between from to a b order first last = record {
    order = omega arith;
    within = first.within;
    inside = λ k d above below. absurd (omega (arith, above, below));
    before = λ k d above below is. absurd (false≢true (sym is.0 ∙ first.point.0 k d above below));
    after = λ k d above below is. absurd (false≢true (sym (last.point.1 k d (omega (arith, above, order)) below) ∙ is.1));
  }

-- ## What a range has

-- an item for which it holds is in the range
pub place_in_span : {X : Type 0} (S : X → Type 0) (xs : List X) (from to : ℕ) (x : X) → IsSpanOf S xs from to → Contains xs x → S x
    → (k : ℕ) × (from ≤ k) × (k < to) × (get_or xs k x ≡ x)
place_in_span S xs from to x h (k, l, e) is = elim (cases_lt k from) [
  | inl first ↦ absurd (h.before k x (omega arith) first (subst S (sym e) is))
  | inr past ↦ elim (cases_lt k to) [
    | inl inside ↦ (k, past, inside, e)
    | inr after ↦ absurd (h.after k x after l (subst S (sym e) is))
  ]
]

at_in_range : {X : Type 0} (xs : List X) (from to k : ℕ) (d : X) → from ≤ k → k < to → to ≤ length xs
    → get_or (slice_range xs from to) (k - from) d ≡ get_or xs k d
at_in_range xs from to k d above below within =
    let back : from + (k - from) ≡ k = omega (arith, above) in
    get_or-take (to - from) (drop from xs) (k - from) d (omega (arith, above, below))
    ∙ get_or-drop from xs (k - from) d ∙ ap (λ n. get_or xs n d) back

in_range_size : {X : Type 0} (xs : List X) (from to k : ℕ) → from ≤ k → k < to → to ≤ length xs
    → k - from < length (slice_range xs from to)
in_range_size xs from to k above below within =
    omega (arith, length-take (to - from) (drop from xs), length-drop from xs, above, below, within)

pub in_span : {X : Type 0} (S : X → Type 0) (xs : List X) (from to : ℕ) (x : X) → IsSpanOf S xs from to → Contains xs x → S x
    → Contains (slice_range xs from to) x
in_span S xs from to x h c is =
    let at = place_in_span S xs from to x h c is in (
      at.0 - from,
      in_range_size xs from to at.0 at.1 at.2 h.within,
      at_in_range xs from to at.0 x at.1 at.2 h.within ∙ at.3,
    )

-- the same range of what is kept beside the items has what is kept beside the one at a place of the range
pub beside_place : {X Y : Type 0} (f : X → Y) (xs : List X) (ys : List Y) (from to k : ℕ) (x : X) → ys ≡ map f xs → from ≤ k → k < to
    → to ≤ length xs → get_or xs k x ≡ x → Contains (slice_range ys from to) (f x)
beside_place f xs ys from to k x e above below within is =
    let size : length ys ≡ length xs = ap length e ∙ length-map xs f in
    let long : to ≤ length ys = omega (arith, size, within) in (
      k - from,
      in_range_size ys from to k above below long,
      at_in_range ys from to k (f x) above below long ∙ ap (λ zs. get_or zs k (f x)) e
          ∙ get_or-map f xs k x (f x) (omega (arith, below, within)) ∙ ap f is,
    )

-- what is in a range is in the list
pub from_range : {X : Type 0} (xs : List X) (from to : ℕ) (x : X) → to ≤ length xs → Contains (slice_range xs from to) x → Contains xs x
from_range xs from to x within (k, l, e) =
    let less : k < to - from = omega (arith, l, length-take (to - from) (drop from xs), length-drop from xs, within) in (
      from + k,
      omega (arith, less, within),
      sym (get_or-take (to - from) (drop from xs) k x less ∙ get_or-drop from xs k x) ∙ e,
    )

-- ## At a path and below it

longer_after : (text : List ℕ) (b : ℕ) → is_lt (slice_cmp nat_cmp text (text ++ b ∷ [])) ≡ true
longer_after [] b = refl
longer_after (t ∷ ts) b =
    ap (λ o. is_lt (ordering_then o (slice_cmp nat_cmp ts (ts ++ b ∷ [])))) (tied_itself nat_cmp_total t) ∙ longer_after ts b

-- the path with a text is from the text on, and before the text with one byte more
pub text_between : (text : List ℕ) (b : ℕ) (path : Atoms) → path_text path ≡ text → IsBetween (text ++ []) (text ++ b ∷ []) path
text_between text b path e = (
  ap (λ t. is_lt (slice_cmp nat_cmp t (text ++ []))) e ∙ ap (λ t. is_lt (slice_cmp nat_cmp text t)) (append-nil text)
      ∙ ap is_lt (tied_itself nat_list_cmp_total text),
  ap (λ t. is_lt (slice_cmp nat_cmp t (text ++ b ∷ []))) e ∙ longer_after text b,
)

joined : (text rest : List ℕ) → text ++ 47 ∷ rest ≡ (text ++ 47 ∷ []) ++ rest
joined text rest = sym (append_assoc text (47 ∷ []) rest)

-- a path whose text goes on after the text and a `/` is from there on, and before the text and what follows a `/`
pub under_between : (text rest : List ℕ) (path : Atoms) → path_text path ≡ text ++ 47 ∷ rest → IsBetween (text ++ 47 ∷ []) (text ++ 48 ∷ []) path
under_between text rest path e = (
  ap (λ t. is_lt (slice_cmp nat_cmp t (text ++ 47 ∷ []))) (e ∙ joined text rest) ∙ not_before (text ++ 47 ∷ []) rest,
  ap (λ t. is_lt (slice_cmp nat_cmp t (text ++ 48 ∷ []))) (e ∙ joined text rest) ∙ before_next text rest,
)
