use Rattle.std.proofs.Common.{◌∙◌, arith}
use Rattle.one_thread.proofs.Waiting.{inputs_good}
use Rattle.one_thread.proofs.ended.inputs_are_good.Goals as goal

pub all_good-requires : goal.all_good-requires
all_good-requires c = λ k l d. let less = c.inputs-inputs.ensures.smaller k l d in omega (arith, less, c.requires.slots)

pub returns : goal.returns
returns c =
    c.all_good.ensures
    ∙ inputs_good c.args.plan.now.pips c.args.pip c.args.slots.now c.inputs-inputs.result.now c.inputs-inputs.ensures.inputs c.requires.pip
