use Rattle.std.proofs.Common.{List, subst, sym}
use Rattle.pip_model_types.specs.declared.pip.Pip.{Pip}
use Rattle.pip_model.specs.Listings.{HasListingsOf}
use Rattle.pip_model.specs.Outputs.{HasOutputsOf}
use Rattle.pip_model.specs.Plans.{AreAllInputs}
use Rattle.pip_model.specs.Rows.{PointBack}
use Rattle.pip_model.proofs.Planning.{inputs_back, keeps_plan}
use Rattle.pip_model.proofs.plan.Plan.build.Goals as goal

pub all_rows-requires : goal.all_rows-requires
all_rows-requires c =
    let inputs = subst (λ (ps : List Pip). AreAllInputs ps c.in_ok-inputs.inputs.items) c.pips-2.ensures.pips c.in_ok-inputs.ensures in
    subst PointBack (sym c.as_slice.ensures.value) (inputs_back c.args.pips c.in_ok-inputs.inputs.items c.pips-2.ensures.list inputs)

pub invariant_of-result : goal.invariant_of-result
invariant_of-result c =
    let inputs = subst (λ (ps : List Pip). AreAllInputs ps c.in_ok-inputs.inputs.items) c.pips-2.ensures.pips c.in_ok-inputs.ensures in
    keeps_plan c.args.pips c.in_ok-inputs.inputs.items c.as_slice.result.now c.in_ok-reach.reach.items c.requires inputs
    c.as_slice.ensures.value c.in_ok-reach.ensures.size c.in_ok-reach.ensures.rows
    c.in_ok-outputs.outputs
    (subst (λ (ps : List Pip). HasOutputsOf ps c.in_ok-outputs.outputs) c.pips-3.ensures.pips c.in_ok-outputs.ensures)
    c.in_ok-listings.listings
    (subst (λ (ps : List Pip). HasListingsOf ps c.in_ok-listings.listings) c.pips-4.ensures.pips c.in_ok-listings.ensures)
