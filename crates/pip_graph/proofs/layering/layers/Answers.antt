use Rattle.std.proofs.Common.{◌≡◌, ◌⊎◌, ℕ, ◌+◌, ◌<◌, ◌≤◌, suc, List, arith, get_or, length, subst, sym}
use Rattle.std.specs.Prelude.{Contains}
use Rattle.pip_model_types.specs.declared.pip.Pip.{Pip}
use Rattle.pip_graph.proofs.LayersOf.{LayersTo, all_layers, no_layers, one_layer}
use Rattle.pip_graph.proofs.layering.layers.Goals as goal

pub pips-init : goal.pips-init
pips-init c = subst (LayersTo c.args.plan.now.pips 0) (sym c.new-layers.ensures.items) (no_layers c.args.plan.now.pips)

pub pips-preserved : goal.pips-preserved
pips-preserved c =
    let pips = c.args.plan.now.pips in
    let so_far = c.pips.invariant in
    let inputs = c.inputs.result.now in
    let layer = c.layer_above-layer.result in
    let same = c.deref.ensures.value in
    let of = c.layer_above-layer.ensures in
    let small = subst (λ (ls : List ℕ). layer ≤ length ls) same of.small in
    let above = subst (λ (ls : List ℕ). (j : ℕ) → Contains inputs j → get_or ls j 0 < layer) same of.above in
    let lowest = subst (λ (ls : List ℕ). (layer ≡ 0) ⊎ ((j : ℕ) × Contains inputs j × (layer ≡ suc (get_or ls j 0)))) same of.lowest in
    subst (LayersTo pips (c.pips.number + 1)) (sym c.in_ok-push.ensures.items)
    (one_layer pips c.pips.layers.items inputs c.pips.number layer so_far c.inputs.ensures.inputs c.inputs.ensures.smaller small above lowest)

pub returns : goal.returns
returns c =
    let pips = c.args.plan.now.pips in
    let past = subst (λ (ps : List Pip). length ps ≤ c.pips.number) c.pips-pips.ensures.pips c.pips-test.false in
    let within = subst (λ (ps : List Pip). c.pips.number ≤ length ps) c.pips-pips.ensures.pips c.pips.auto.number-end in
    let all : length pips ≡ c.pips.number = omega (arith, past, within) in
    all_layers pips c.pips.number c.pips.layers.items c.pips.invariant all
