use Rattle.std.proofs.Common.{rules}
use Rattle.std.specs.Ordering.{nat_cmp}
use Rattle.std.proofs.lemmas.Fn.{always_returns_same}
use Rattle.pip_view_inputs.specs.declared.inputs.MadeBy.{MadeBy}
use Rattle.pip_view_inputs.proofs.PlacedNumbers.{place_from_search, place_if_found}
use Rattle.pip_view_inputs.proofs.inputs.place_of.Goals as goal

pub returns : goal.returns
returns c = rw c.ok.ensures.value
    (place_if_found c.args.made.now c.args.pip _
    (place_from_search c.args.made.now c.args.pip _ c.requires c.binary_search_by.ensures.bound
    (c.binary_search_by.ensures.position (λ (m : MadeBy). nat_cmp m.pip c.args.pip) (always_returns_same _ _ _ (λ a r g h. search rules)))))
