use Rattle.std.proofs.Common.{List, [], ◌∷◌, ◌++◌, ap, map, pos, ◌∙◌}
use Rattle.dscript_value.specs.Plain as plain
use Rattle.dscript_value.specs.Plain.{plain_of}
use Rattle.dscript_value.specs.declared.value.Value.{Value}
use Rattle.dscript_eval.proofs.callbacks.item_args.Goals as goal

pub returns : goal.returns
returns c =
    c.in_ok-add_item.ensures
    ∙ ap (λ (xs : List Value). map plain_of xs ++ plain_of c.args.item.now ∷ plain.Number (pos c.args.number) ∷ [])
    c.new-args.ensures.items
