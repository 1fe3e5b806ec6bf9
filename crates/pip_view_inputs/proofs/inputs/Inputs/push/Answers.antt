use Rattle.std.proofs.Common.{ℕ, zero, suc, ◌<◌, List, [], ◌∷◌, ◌++◌, length, map, get_or, ap, sym, ◌∙◌, subst, arith}
use Rattle.std.specs.List.{All}
use Rattle.std.specs.List.Sorted.{IsStrictlyIncreasing}
use Rattle.std.proofs.lemmas.List.{map-append}
use Rattle.pip_view_inputs.specs.Results.{ByPip}
use Rattle.pip_view_inputs.specs.Views.{made_pair}
use Rattle.pip_view_inputs.specs.declared.inputs.MadeBy.{MadeBy}
use Rattle.pip_view_inputs.proofs.KeptInputs.{rises_on}
use Rattle.pip_view_inputs.proofs.inputs.Inputs.push.Goals as goal

abbrev numbers : List MadeBy → List ℕ
numbers made = map (λ (m : MadeBy). m.pip) made

below : (made : List MadeBy) (pip : ℕ) → All (λ pair. pair.0 < pip) (map made_pair made) → All (λ j. j < pip) (numbers made)
below [] pip all k d l = absurd (omega (arith, l))
below (m ∷ ms) pip all zero d l = all zero (made_pair m) (omega arith)
below (m ∷ ms) pip all (suc k) d l = below ms pip (λ i e w. all (suc i) e (omega (arith, w))) k d (omega (arith, l))

pub invariant_of-self-2 : goal.invariant_of-self-2
invariant_of-self-2 c =
    let made = c.self.inside.made.items in
    let all : All (λ pair. pair.0 < c.args.pip) (map made_pair made) =
    subst (λ (pairs : ByPip). All (λ pair. pair.0 < c.args.pip) pairs) (sym c.self.view_is) c.requires in
    let rises : IsStrictlyIncreasing (numbers made ++ c.args.pip ∷ []) = rises_on (numbers made) c.args.pip c.self.invariant (below made c.args.pip all) in
    subst IsStrictlyIncreasing
    (sym (ap numbers c.in_ok-push.ensures.items ∙ map-append (λ (m : MadeBy). m.pip) made (_ ∷ [])))
    rises
