use Rattle.std.proofs.Common.{◌≡◌, ℕ, true, List, ap, subst, sym, arith}
use Rattle.std.specs.List.{Contains}
use Rattle.std.proofs.lemmas.List.Sorted.{Contains-permutation}
use Rattle.pip_model_types.specs.declared.pip.Pip.{Pip}
use Rattle.pip_model.specs.Listings.{has_wide, listings_from}
use Rattle.pip_model.specs.Plans.{PlanData}
use Rattle.pip_model.proofs.Listed.{listed_there}
use Rattle.pip_model.proofs.plan.Plan.seals_near.Goals as goal

pub returns : goal.returns
returns c = λ wide j lists.
    let pips = ap (λ (p : PlanData). p.pips) c.self.view_is in
    let l = listed_there c.args.self.now.pips 0 j c.args.text.now lists in
    let moved = c.self.invariant.listings_of (subst (λ (ps : List Pip). has_wide ps ≡ true) (sym pips) wide) in
    let at = subst (λ (ps : List Pip). Contains (listings_from 0 ps) l.0) (sym pips) l.1 in
    subst (λ (n : ℕ). Contains c.near.result.now n) (omega (arith, l.3)) (c.near.ensures l.0 (Contains-permutation _ _ l.0 moved at) l.2)
