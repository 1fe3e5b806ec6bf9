use Rattle.std.proofs.Common.{ap, sym, ◌∙◌}
use Rattle.std.specs.Prelude.{unwrap_or}
use Rattle.dscript_value.specs.Plain as plain
use Rattle.dscript_value.specs.Plain.{item_list, plain_values}
use Rattle.dscript_sdk_values.proofs.Views.{plain-Undefined}
use Rattle.dscript_eval_frames.proofs.ItemLists.{nothing_there}
use Rattle.dscript_eval.proofs.CallbackReads.{item_read}
use Rattle.dscript_eval.proofs.callbacks.next_item.Goals as goal

pub returns-in-Some : goal.returns-in-Some
returns-in-Some c = item_read _ c.args.callbacks.now c.in-Some.item.now c.in-Some.ensures c.share.ensures

pub returns-in-None : goal.returns-in-None
returns-in-None c =
    let items = item_list (plain_values c.args.callbacks.now.items).items in
    plain-Undefined
    ∙ sym (ap (λ o. unwrap_or o plain.Undefined) (nothing_there items c.args.callbacks.now.next c.in-None.ensures))
