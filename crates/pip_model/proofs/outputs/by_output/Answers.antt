use Rattle.pip_model.proofs.OutputsFound.{next_pip, no_pip_left}
use Rattle.pip_model.proofs.outputs.by_output.Goals as goal

pub pips-preserved : goal.pips-preserved
pips-preserved c = λ text.
    next_pip text c.args.pips.now c.pips.place c.index-pips-place.result _ _ c.pips-test.true c.index-pips-place.is
    (c.in_ok-add_pip.ensures text) (c.pips.invariant text)

pub returns : goal.returns
returns c = λ text. no_pip_left text c.args.pips.now c.pips.place _ c.pips-test.false (c.pips.invariant text)
