use Rattle.std.proofs.Common.{map, ap, ◌∙◌, arith}
use Rattle.pip_view_inputs.specs.Views.{made_pair}
use Rattle.pip_view_inputs.proofs.KeptInputs.{inputs_pairs, numbers_rise}
use Rattle.pip_view_inputs.proofs.inputs.Inputs.of.Goals as goal

pub all_made-requires : goal.all_made-requires
all_made-requires c = λ k d l. let less = c.inputs-inputs.ensures.smaller k d l in omega (arith, less, c.requires.slots)

pub invariant_of-result : goal.invariant_of-result
invariant_of-result c =
    numbers_rise c.args.slots.now c.inputs-inputs.result.now c.in_ok-made.made.items c.in_ok-made.ensures c.inputs-inputs.ensures.inputs.rising

pub returns : goal.returns
returns c =
    ap (map made_pair) c.in_ok-made.ensures
    ∙ inputs_pairs c.args.plan.now.pips c.args.pip c.args.slots.now c.inputs-inputs.result.now c.inputs-inputs.ensures.inputs
    c.inputs-inputs.ensures.smaller c.requires.slots
