use Rattle.std.proofs.Common.{◌≡◌, ◌<◌, arith, get_or, inl, length, refl}
use Rattle.pip_graph.proofs.LayersOf.{above_more, all_above, lowest_more, small_more}
use Rattle.pip_graph.proofs.layering.layer_above.Goals as goal

pub inputs-init : goal.inputs-init
inputs-init c = record { small = omega arith; above = λ k l. absurd (omega (arith, l)); lowest = inl refl }

pub inputs-preserved : goal.inputs-preserved
inputs-preserved c =
    let ls = c.args.layers.now in
    let xs = c.args.inputs.now in
    let i = c.inputs.input-index in
    let input = get_or xs i 0 in
    let below = get_or ls input 0 in
    let within = c.requires.inputs i 0 c.inputs-test.true in
    let low = c.requires.low input within in
    let up = c.raised-layer.ensures.up in
    let same = c.raised-layer.ensures.same in
    let under : below < length ls = omega (arith, within, low) in
    record {
      small = small_more below c.inputs.layer c.raised-layer.result (length ls) up same under c.inputs.invariant.small;
      above = above_more ls xs i input below c.inputs.layer c.raised-layer.result c.inputs-test.true refl refl up same c.inputs.invariant.above;
      lowest = lowest_more ls xs i input below c.inputs.layer c.raised-layer.result c.inputs-test.true refl refl up same c.inputs.invariant.lowest;
    }

pub returns-clause-above : goal.returns-clause-above
returns-clause-above c =
    let whole : length c.args.inputs.now ≡ c.inputs.input-index = omega arith in
    all_above c.args.layers.now c.args.inputs.now c.inputs.input-index c.inputs.layer whole c.inputs.invariant.above
