use Rattle.dscript_value.specs.Plain.{plain_of}
use Rattle.dscript_eval.proofs.CallbackReads.{after_first}
use Rattle.dscript_eval.proofs.callbacks.reduction_args.Goals as goal

pub returns : goal.returns
returns c =
    after_first c.new-args.result.items _ _ _ _ (plain_of c.args.so_far.now) c.new-args.ensures.items
    c.in_ok-add_value.ensures c.in_ok-copy.ensures c.in_ok-add_item.ensures
