-- A search by halving.
use Rattle.std.proofs.Common.{◌≡◌, ℕ, ◌+◌, ◌-◌, ◌*◌, ◌<◌, ◌≤◌, Bool, true, false, List, length, get_or, refl, ap, sym, ◌∙◌, inl, inr, arith}
use Rattle.std.specs.Prelude.{◌/◌}
use Rattle.std.specs.Cmp.{Equal-is}
use Rattle.std.specs.Cmp.Lexicographic.{slice_cmp}
use Rattle.std.specs.List.{AllWithin}
use Rattle.std.specs.Ordering.{is_eq, is_lt, nat_cmp, ordering_reverse}
use Rattle.std.specs.declared.cmp.Ordering.{Ordering}
use Rattle.std.specs.declared.cmp.Ordering.TheVariants.{Less, Equal, Greater}
use Rattle.std.proofs.lemmas.Bool.{cases_Bool, cases_lt, false≢true}
use Rattle.std.proofs.lemmas.Cmp.{nat_list_cmp_total, tied_itself}
use Rattle.bx_tree.specs.Orders.{equal_texts}
use Rattle.bx_tree.specs.Paths.{Atoms, path_text}
use Rattle.bx_tree.specs.Ranges.{comes_before}
use Rattle.bx_tree_paths.specs.Searches.{IsSlotOf, RiseByText}

greater_from : (o : Ordering) → is_lt o ≡ false → is_eq o ≡ false → o ≡ Greater
greater_from Less a b = absurd (false≢true (sym a))
greater_from Equal a b = absurd (false≢true (sym b))
greater_from Greater a b = refl

-- no text comes before itself
itself : (text : List ℕ) → is_lt (slice_cmp nat_cmp text text) ≡ false
itself text = ap is_lt (tied_itself nat_list_cmp_total text)

module _ {X : Type 0} (path : X → Atoms) (text : List ℕ) (items : List X) where
  -- What is known within a search: the items before one place have paths that come before the text, those from
  -- another on have not, and whether the item there has the path with the text.
  pub record IsHalved (low high : ℕ) (is_there : Bool) : Type 0 where
    pub order : low ≤ high
    pub within : high ≤ length items
    pub before : AllWithin (λ x. comes_before text (path x) ≡ true) items 0 low
    pub after : AllWithin (λ x. comes_before text (path x) ≡ false) items high (length items)
    pub at : (d : X) → high < length items → is_there ≡ is_eq (slice_cmp nat_cmp (path_text (path (get_or items high d))) text)
    pub past : high ≡ length items → is_there ≡ false

  pub whole : IsHalved 0 (length items) false
  whole = record {
    order = omega arith;
    within = omega arith;
    before = λ k d from to. absurd (omega (arith, to));
    after = λ k d from to. absurd (omega (arith, from, to));
    at = λ d less. absurd (omega (arith, less));
    past = λ e. refl;
  }

  -- the item in the middle comes before the text
  pub upper_half : (low high middle : ℕ) (b : Bool) → IsHalved low high b → RiseByText path items → middle < high
      → ((d : X) → comes_before text (path (get_or items middle d)) ≡ true) → IsHalved (middle + 1) high b
  upper_half low high middle b h rise less here = record {
    order = omega (arith, less);
    within = h.within;
    before = λ k d from to. rise text k middle d (omega (arith, to)) (omega (arith, less, h.within)) (here d);
    after = h.after;
    at = h.at;
    past = h.past;
  }

  -- the item in the middle does not come before the text
  pub lower_half : (low high middle : ℕ) (b c : Bool) → IsHalved low high b → RiseByText path items → low ≤ middle → middle < high
      → ((d : X) → comes_before text (path (get_or items middle d)) ≡ false)
      → ((d : X) → c ≡ is_eq (slice_cmp nat_cmp (path_text (path (get_or items middle d))) text)) → IsHalved low middle c
  lower_half low high middle b c h rise from less here same = record {
    order = from;
    within = omega (arith, less, h.within);
    before = h.before;
    after = λ k d from' to. elim (cases_Bool (comes_before text (path (get_or items k d)))) [
      | inr after ↦ after
      | inl first ↦ absurd (false≢true (sym (here d) ∙ rise text middle k d from' to first))
    ];
    at = λ d _. same d;
    past = λ e. absurd (omega (arith, e, less, h.within));
  }

  -- where nothing is left, the place is found
  pub all_halved : (place : ℕ) (b : Bool) → IsHalved place place b → RiseByText path items → IsSlotOf path text items place b
  all_halved place b h rise = record {
    within = h.within;
    point = (h.before, h.after);
    there = λ e. (inside e, λ d. found e d);
    not_there = λ e k d less same. elim (cases_lt k place) [
      | inl first ↦ absurd (false≢true (sym (itself text) ∙ ap (λ t. is_lt (slice_cmp nat_cmp t text)) (sym same) ∙ h.before k d (omega arith) first))
      | inr later ↦ not_later e k d less later same
    ];
  }
    where
      inside : b ≡ true → place < length items
      inside e = elim (cases_lt place (length items)) [
        | inl less ↦ less
        | inr long ↦ absurd (false≢true (sym (h.past (omega (arith, long, h.within))) ∙ e))
      ]

      found : b ≡ true → (d : X) → path_text (path (get_or items place d)) ≡ text
      found e d =
          equal_texts (path_text (path (get_or items place d))) text
          ((Equal-is (slice_cmp nat_cmp (path_text (path (get_or items place d))) text)).0 (sym (h.at d (inside e)) ∙ e))

      not_later : b ≡ false → (k : ℕ) (d : X) → k < length items → place ≤ k → path_text (path (get_or items k d)) ≡ text → ⊥
      not_later e k d less later same =
          let here = path_text (path (get_or items place d)) in
          let more : slice_cmp nat_cmp here text ≡ Greater =
          greater_from (slice_cmp nat_cmp here text) (h.after place d (omega arith) (omega (arith, less, later))) (sym (h.at d (omega (arith, less, later))) ∙ e) in
          let less_text : slice_cmp nat_cmp text here ≡ Less = nat_list_cmp_total.antisymm text here ∙ ap ordering_reverse more in
          let first : comes_before here (path (get_or items k d)) ≡ true = ap (λ t. is_lt (slice_cmp nat_cmp t here)) same ∙ ap is_lt less_text in
          false≢true (sym (itself here) ∙ rise here place k d later less first)

-- ## The middle

pub middle_less : (low high : ℕ) → low < high → low + (high - low) / 2 < high
middle_less low high l = omega (arith, l)

pub middle_after : (low high : ℕ) → low ≤ low + (high - low) / 2
middle_after low high = omega arith

pub upper_rest : (low high : ℕ) → low < high → 2 * (high - (low + (high - low) / 2 + 1)) ≤ high - low
upper_rest low high l = omega (arith, l)

pub lower_rest : (low high : ℕ) → low < high → 2 * (low + (high - low) / 2 - low) ≤ high - low
lower_rest low high l = omega (arith, l)

pub some_left : (low high : ℕ) → low < high → 0 < high - low
some_left low high l = omega (arith, l)
