-- Locals by their numbers, branch by branch.
use Rattle.std.proofs.Common.{◌≡◌, ℕ, ◌-◌, ◌/◌, ◌%◌, ◌==◌, Bool, true, false, not, Option, Some, cond, refl, ap, sym, ◌∙◌, arith}
use Rattle.std.proofs.lemmas.Bool.{eqb-false, eqb-true, ne_eqb}
use Rattle.std.proofs.lemmas.Bool.Decides.{Decides-eqb, Decides-like, same_from_decides}
use Rattle.std.specs.Option.{option_map}
use Rattle.dscript_types_known.specs.Matching.{FoundLocal, FoundLocals}
use Rattle.dscript_types_known.specs.Views.{found_local}
use Rattle.dscript_types_known.specs.declared.locals.Local.{Local}

abbrev pub half : ℕ → ℕ
half number = (number - 1) / 2

abbrev pub is_even : ℕ → Bool
is_even number = (number - 1) % 2 == 0

abbrev below : FoundLocals → FoundLocals → FoundLocals
below even odd number = cond (is_even number) (even (half number)) (odd (half number))

-- the local of a number, by the parts of a branch
abbrev pub at_parts : Option Local → FoundLocals → FoundLocals → FoundLocals
at_parts here even odd number = cond (number == 0) (option_map found_local here) (below even odd number)

-- with another local
abbrev pub with_one : FoundLocals → ℕ → FoundLocal → FoundLocals
with_one locals number local other = cond (other == number) (Some local) (locals other)

-- ## The parts

pub at_first
    : (here : Option Local) (even odd : FoundLocals) (number : ℕ) → number ≡ 0
    → at_parts here even odd number ≡ option_map found_local here
at_first here even odd number e = ap (λ (k : ℕ). at_parts here even odd k) e

module _ (here : Option Local) (even odd : FoundLocals) (number : ℕ) (some : (number == 0) ≡ false) where
  at_more : at_parts here even odd number ≡ below even odd number
  at_more = ap (λ b. cond b (option_map found_local here) (below even odd number)) some

  pub at_even : is_even number ≡ true → at_parts here even odd number ≡ even (half number)
  at_even e = at_more ∙ ap (λ b. cond b (even (half number)) (odd (half number))) e

  pub at_odd : is_even number ≡ false → at_parts here even odd number ≡ odd (half number)
  at_odd e = at_more ∙ ap (λ b. cond b (even (half number)) (odd (half number))) e

-- ## Numbers

from_halves
    : (a b rest : ℕ) → (a ≡ 0 → ⊥) → (b ≡ 0 → ⊥) → (a - 1) % 2 ≡ rest → (b - 1) % 2 ≡ rest → half a ≡ half b → a ≡ b
from_halves a b rest some other e f same = omega arith

no_self : (b : Bool) → b ≡ not b → ⊥
no_self true h = let fails : true ≡ false = h in cc
no_self false h = let fails : false ≡ true = h in cc

odd_rest : (k : ℕ) → (k % 2 == 0) ≡ false → k % 2 ≡ 1
odd_rest k e = let fails : k % 2 ≡ 0 → ⊥ = eqb-false (k % 2) 0 e in omega (arith, fails)

-- ## Another local

-- of the number 0
pub first_with
    : (here : Option Local) (even odd : FoundLocals) (number : ℕ) (l : Local) → number ≡ 0
    → (other : ℕ) → at_parts (Some l) even odd other ≡ with_one (at_parts here even odd) number (found_local l) other
first_with here even odd number l e other =
    by_test (other == 0) ∙ sym (ap (λ (k : ℕ). with_one (at_parts here even odd) k (found_local l) other) e)
  where
    by_test
        : (test : Bool)
        → cond test (Some (found_local l)) (below even odd other)
        ≡ cond test (Some (found_local l)) (cond test (option_map found_local here) (below even odd other))
    by_test true = refl
    by_test false = refl

module _ (here : Option Local) (even odd : FoundLocals) (number : ℕ) (l : FoundLocal) (some : (number == 0) ≡ false) where
  passes_by : (f : FoundLocals) (other : ℕ) → (other == number) ≡ false → with_one f number l other ≡ f other
  passes_by f other e = ap (λ b. cond b (Some l) (f other)) e

  zero_differs : (other : ℕ) → (other == 0) ≡ true → (other == number) ≡ false
  zero_differs other z = ne_eqb other number (λ same. eqb-false number 0 some (sym same ∙ eqb-true other 0 z))

  -- two numbers of one branch
  halves
      : (other : ℕ) (rest : ℕ) → (other == 0) ≡ false → (other - 1) % 2 ≡ rest → (number - 1) % 2 ≡ rest
      → (half other == half number) ≡ (other == number)
  halves other rest z e f =
      same_from_decides (half other == half number) (other == number) (Decides-eqb (half other) (half number))
      (Decides-like (other == number) (λ (same : other ≡ number). ap half same)
      (λ (same : half other ≡ half number). from_halves other number rest (eqb-false other 0 z) (eqb-false number 0 some) e f same)
      (Decides-eqb other number))

  -- two numbers of two branches
  differ : (other : ℕ) (a : Bool) → is_even other ≡ not a → is_even number ≡ a → (other == number) ≡ false
  differ other a e f = ne_eqb other number (λ same. no_self a (sym f ∙ ap is_even (sym same) ∙ e))

  -- among those that are even
  module _ (new : FoundLocals) (parity : is_even number ≡ true) (is : (k : ℕ) → new k ≡ with_one even (half number) l k) where
    even_at : (other : ℕ) (z q : Bool) → (other == 0) ≡ z → is_even other ≡ q
        → at_parts here new odd other ≡ with_one (at_parts here even odd) number l other
    even_at other true q z e =
        at_first here new odd other (eqb-true other 0 z) ∙ sym (at_first here even odd other (eqb-true other 0 z))
        ∙ sym (passes_by (at_parts here even odd) other (zero_differs other z))
    even_at other false true z e =
        at_even here new odd other z e ∙ is (half other)
        ∙ ap (λ b. cond b (Some l) (even (half other))) (halves other 0 z (eqb-true ((other - 1) % 2) 0 e) (eqb-true ((number - 1) % 2) 0 parity))
        ∙ ap (cond (other == number) (Some l)) (sym (at_even here even odd other z e))
    even_at other false false z e =
        at_odd here new odd other z e ∙ sym (at_odd here even odd other z e)
        ∙ sym (passes_by (at_parts here even odd) other (differ other true e parity))

    pub even_with : (other : ℕ) → at_parts here new odd other ≡ with_one (at_parts here even odd) number l other
    even_with other = even_at other (other == 0) (is_even other) refl refl

  -- among those that are odd
  module _ (new : FoundLocals) (parity : is_even number ≡ false) (is : (k : ℕ) → new k ≡ with_one odd (half number) l k) where
    odd_at : (other : ℕ) (z q : Bool) → (other == 0) ≡ z → is_even other ≡ q
        → at_parts here even new other ≡ with_one (at_parts here even odd) number l other
    odd_at other true q z e =
        at_first here even new other (eqb-true other 0 z) ∙ sym (at_first here even odd other (eqb-true other 0 z))
        ∙ sym (passes_by (at_parts here even odd) other (zero_differs other z))
    odd_at other false false z e =
        at_odd here even new other z e ∙ is (half other)
        ∙ ap (λ b. cond b (Some l) (odd (half other))) (halves other 1 z (odd_rest (other - 1) e) (odd_rest (number - 1) parity))
        ∙ ap (cond (other == number) (Some l)) (sym (at_odd here even odd other z e))
    odd_at other false true z e =
        at_even here even new other z e ∙ sym (at_even here even odd other z e)
        ∙ sym (passes_by (at_parts here even odd) other (differ other false e parity))

    pub odd_with : (other : ℕ) → at_parts here even new other ≡ with_one (at_parts here even odd) number l other
    odd_with other = odd_at other (other == 0) (is_even other) refl refl
