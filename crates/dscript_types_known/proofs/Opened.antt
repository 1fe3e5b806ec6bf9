-- The parts of a branch.
use Rattle.std.proofs.Common.{◌≡◌, ℕ, ◌==◌, Bool, true, false, Option, Some, None, cond, refl, ap, sym, ◌∙◌}
use Rattle.std.specs.declared.alloc.Global.{Global}
use Rattle.std.specs.declared.rc.Rc.{Rc}
use Rattle.std.specs.Option.{option_map}
use Rattle.dscript_types_known.proofs.Branches.{at_even, at_first, at_odd, at_parts, even_with, first_with, half, is_even, odd_with, with_one}
use Rattle.dscript_types_known.specs.Matching.{FoundLocal, FoundLocals}
use Rattle.dscript_types_known.specs.Views.{branch_at, branch_step, found_local, in_branch}
use Rattle.dscript_types_known.specs.declared.locals.Branch.{Branch}
use Rattle.dscript_types_known.specs.declared.locals.Branch.TheFolds.{fold-roll-Branch, fold_out-Branch}
use Rattle.dscript_types_known.specs.declared.locals.Branch.TheViews.{out-Branch, roll-Branch}
use Rattle.dscript_types_known.specs.declared.locals.Local.{Local}

-- a branch that is made
pub rolled
    : (here : Option Local) (even odd : Option (Rc Branch Global)) (number : ℕ)
    → in_branch (roll-Branch (record { here = here; even = even; odd = odd })) number
    ≡ at_parts here (branch_at even) (branch_at odd) number
rolled here None None number =
    ap (λ (f : FoundLocals). f number) (fold-roll-Branch FoundLocals branch_step (record { here = here; even = None; odd = None }))
rolled here None (Some o) number =
    ap (λ (f : FoundLocals). f number) (fold-roll-Branch FoundLocals branch_step (record { here = here; even = None; odd = Some o }))
rolled here (Some e) None number =
    ap (λ (f : FoundLocals). f number) (fold-roll-Branch FoundLocals branch_step (record { here = here; even = Some e; odd = None }))
rolled here (Some e) (Some o) number =
    ap (λ (f : FoundLocals). f number)
    (fold-roll-Branch FoundLocals branch_step (record { here = here; even = Some e; odd = Some o }))

-- a branch that is there
pub opened
    : (b : Branch) (number : ℕ)
    → in_branch b number
    ≡ at_parts (out-Branch b).here (branch_at (out-Branch b).even) (branch_at (out-Branch b).odd) number
opened b number =
    ap (λ (f : FoundLocals). f number) (fold_out-Branch FoundLocals branch_step b)
    ∙ sym (ap (λ (f : FoundLocals). f number) (fold-roll-Branch FoundLocals branch_step (out-Branch b)))
    ∙ rolled (out-Branch b).here (out-Branch b).even (out-Branch b).odd number

-- ## Parts that are shared

same_parts
    : (here there : Option Local) (even odd evens odds : FoundLocals) (number : ℕ) → option_map found_local here ≡ option_map found_local there
    → ((k : ℕ) → even k ≡ evens k) → ((k : ℕ) → odd k ≡ odds k) → at_parts here even odd number ≡ at_parts there evens odds number
same_parts here there even odd evens odds number first es os = by_tests (number == 0) (is_even number)
  where
    by_tests
        : (a b : Bool)
        → cond a (option_map found_local here) (cond b (even (half number)) (odd (half number)))
        ≡ cond a (option_map found_local there) (cond b (evens (half number)) (odds (half number)))
    by_tests true b = first
    by_tests false true = es (half number)
    by_tests false false = os (half number)

pub parts_shared
    : (b : Branch) (here : Option Local) (even odd : Option (Rc Branch Global))
    → option_map found_local here ≡ option_map found_local (out-Branch b).here
    → ((k : ℕ) → branch_at even k ≡ branch_at (out-Branch b).even k) → ((k : ℕ) → branch_at odd k ≡ branch_at (out-Branch b).odd k)
    → (number : ℕ) → in_branch (roll-Branch (record { here = here; even = even; odd = odd })) number ≡ in_branch b number
parts_shared b here even odd first es os number =
    rolled here even odd number
    ∙ same_parts here (out-Branch b).here (branch_at even) (branch_at odd) (branch_at (out-Branch b).even) (branch_at (out-Branch b).odd)
    number first es os
    ∙ sym (opened b number)

abbrev no_local : Option FoundLocal
no_local = None

-- no branch has no locals
pub no_parts : (number : ℕ) → in_branch (roll-Branch (record { here = None; even = None; odd = None })) number ≡ None
no_parts number = rolled None None None number ∙ by_tests (number == 0) (is_even number)
  where
    by_tests : (a b : Bool) → cond a no_local (cond b no_local no_local) ≡ no_local
    by_tests true b = refl
    by_tests false true = refl
    by_tests false false = refl

-- ## Another local

module _ (old : FoundLocals) (parts : Branch) (same : (k : ℕ) → in_branch parts k ≡ old k) (number : ℕ) where
  abbrev parts_at : FoundLocals
  parts_at = at_parts (out-Branch parts).here (branch_at (out-Branch parts).even) (branch_at (out-Branch parts).odd)

  same_one : (l : FoundLocal) (other : ℕ) → with_one parts_at number l other ≡ with_one old number l other
  same_one l other = ap (cond (other == number) (Some l)) (sym (opened parts other) ∙ same other)

  pub added_first
      : (l : Local) → number ≡ 0 → (other : ℕ)
      → in_branch (roll-Branch (record { here = Some l; even = (out-Branch parts).even; odd = (out-Branch parts).odd })) other
      ≡ with_one old number (found_local l) other
  added_first l e other =
      rolled (Some l) (out-Branch parts).even (out-Branch parts).odd other
      ∙ first_with (out-Branch parts).here (branch_at (out-Branch parts).even) (branch_at (out-Branch parts).odd) number l e other
      ∙ same_one (found_local l) other

  pub added_even
      : (l : FoundLocal) (new : Rc Branch Global) → (number == 0) ≡ false → is_even number ≡ true
      → ((k : ℕ) → branch_at (Some new) k ≡ with_one (branch_at (out-Branch parts).even) (half number) l k) → (other : ℕ)
      → in_branch (roll-Branch (record { here = (out-Branch parts).here; even = Some new; odd = (out-Branch parts).odd })) other
      ≡ with_one old number l other
  added_even l new some parity is other =
      rolled (out-Branch parts).here (Some new) (out-Branch parts).odd other
      ∙ even_with (out-Branch parts).here (branch_at (out-Branch parts).even) (branch_at (out-Branch parts).odd) number l some
      (branch_at (Some new)) parity is other
      ∙ same_one l other

  pub added_odd
      : (l : FoundLocal) (new : Rc Branch Global) → (number == 0) ≡ false → is_even number ≡ false
      → ((k : ℕ) → branch_at (Some new) k ≡ with_one (branch_at (out-Branch parts).odd) (half number) l k) → (other : ℕ)
      → in_branch (roll-Branch (record { here = (out-Branch parts).here; even = (out-Branch parts).even; odd = Some new })) other
      ≡ with_one old number l other
  added_odd l new some parity is other =
      rolled (out-Branch parts).here (out-Branch parts).even (Some new) other
      ∙ odd_with (out-Branch parts).here (branch_at (out-Branch parts).even) (branch_at (out-Branch parts).odd) number l some
      (branch_at (Some new)) parity is other
      ∙ same_one l other

-- down the branches: the local of a number stands in one of the two below
module _ (b : Branch) (number : ℕ) where
  pub down_first : number ≡ 0 → in_branch b number ≡ option_map found_local (out-Branch b).here
  down_first e =
      opened b number ∙ at_first (out-Branch b).here (branch_at (out-Branch b).even) (branch_at (out-Branch b).odd) number e

  pub down_even
      : (number == 0) ≡ false → is_even number ≡ true → branch_at (out-Branch b).even (half number) ≡ in_branch b number
  down_even some parity =
      sym (opened b number ∙ at_even (out-Branch b).here (branch_at (out-Branch b).even) (branch_at (out-Branch b).odd) number some parity)

  pub down_odd
      : (number == 0) ≡ false → is_even number ≡ false → branch_at (out-Branch b).odd (half number) ≡ in_branch b number
  down_odd some parity =
      sym (opened b number ∙ at_odd (out-Branch b).here (branch_at (out-Branch b).even) (branch_at (out-Branch b).odd) number some parity)
