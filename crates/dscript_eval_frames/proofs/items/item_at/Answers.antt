use Rattle.std.proofs.Common.{refl, ap, ◌∷◌, ◌∙◌, ◌+◌, drop, arith}
use Rattle.std.proofs.lemmas.List.{drop_all}
use Rattle.dscript_value.specs.Plain.{item_list, plain_values}
use Rattle.dscript_eval_frames.proofs.ItemLists.{none_left, same_first, shared_first}
use Rattle.dscript_eval_frames.proofs.items.item_at.Goals as goal

pub returns-then-at-len : goal.returns-then-at-len
returns-then-at-len c = drop_all c.args.at _ (omega (arith, c.if-at-len.true, c.len.ensures.len))

pub returns-in_ok-copy-in-Some : goal.returns-in_ok-copy-in-Some
returns-in_ok-copy-in-Some c =
    (refl, shared_first _ c.args.at _ _ c.in-Some.ensures c.in_ok-copy-in-Some.ensures)

pub returns-in-None : goal.returns-in-None
returns-in-None c = none_left _ c.args.at c.in-None.ensures
