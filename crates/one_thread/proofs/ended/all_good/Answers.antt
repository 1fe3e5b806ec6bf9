use Rattle.std.proofs.Common.{◌∙◌, sym}
use Rattle.one_thread.proofs.Waiting.{good_passed, good_stopped}
use Rattle.one_thread.proofs.ended.all_good.Goals as goal

pub returns-then-not-is_good : goal.returns-then-not-is_good
returns-then-not-is_good c =
    sym (good_stopped c.args.slots.now c.args.inputs.now c.inputs.input-index c.index-slots-input.result c.inputs-test.true
    (c.requires c.inputs.input-index 0 c.inputs-test.true) c.index-slots-input.is (sym c.is_good.ensures ∙ c.if-not-is_good.true))
    ∙ c.inputs.invariant

pub inputs-preserved : goal.inputs-preserved
inputs-preserved c =
    sym (good_passed c.args.slots.now c.args.inputs.now c.inputs.input-index c.index-slots-input.result c.inputs-test.true
    (c.requires c.inputs.input-index 0 c.inputs-test.true) c.index-slots-input.is (sym c.is_good.ensures ∙ c.if-not-is_good.false))
    ∙ c.inputs.invariant
