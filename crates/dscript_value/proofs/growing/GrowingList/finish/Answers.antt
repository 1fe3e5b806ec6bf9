use Rattle.std.proofs.Common.{List, ◌++◌, ap, map, sym, ◌∙◌}
use Rattle.dscript_value.specs.declared.value.Value.{Value}
use Rattle.dscript_value.specs.Data.{PlainValues, item_list, item_list-to_items}
use Rattle.dscript_value.specs.Depths.{greatest_depth, list_value}
use Rattle.dscript_value.specs.Grown.{items_before}
use Rattle.dscript_value.specs.Plain.{plain_of}
use Rattle.dscript_value.proofs.Deep.{too_deep}
use Rattle.dscript_value.proofs.growing.GrowingList.finish.Goals as goal

pub returns-then-depth-ge-MAX_DEPTH : goal.returns-then-depth-ge-MAX_DEPTH
returns-then-depth-ge-MAX_DEPTH c = λ _.
    too_deep (items_before c.args.self.before) (map plain_of c.args.self.last.items) c.deepest-depth.result
    (c.deepest-depth.ensures ∙ ap (λ (vs : List Value). greatest_depth (map plain_of vs)) c.as_slice.ensures.value)
    c.if-depth-ge-MAX_DEPTH.true

pub returns : goal.returns
returns c =
    let last = ap (λ (v : PlainValues). item_list v.items) (c.of-last.ensures ∙ c.in_ok-new.ensures) ∙ item_list-to_items _ in
    ap list_value (sym (c.in_ok-values.ensures ∙ ap (λ ys. items_before c.args.self.before ++ ys) last))
    ∙ c.list.ensures
