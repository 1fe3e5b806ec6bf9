use Rattle.std.proofs.Common.{map, pos}
use Rattle.dscript_value.specs.Plain as plain
use Rattle.dscript_value.specs.Plain.{plain_of}
use Rattle.dscript_eval.proofs.CallbackReads.{added_two}
use Rattle.dscript_eval.proofs.callbacks.add_item.Goals as goal

pub returns : goal.returns
returns c =
    added_two c.add_value-2.result (map plain_of c.args.args.now.items) _ _ _ _ (plain_of c.args.item.now)
    (plain.Number (pos c.args.number)) c.in_ok-add_value.ensures c.add_value-2.ensures c.in_ok-copy.ensures
    c.in_ok-number.ensures
