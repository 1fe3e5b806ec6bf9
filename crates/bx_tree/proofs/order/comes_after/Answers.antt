use Rattle.std.proofs.Common.{◌<◌, arith, length, sym, ap, ◌∙◌}
use Rattle.std.specs.Ordering.{is_lt}
use Rattle.bx_tree.proofs.AncestorSearch.{after_all, after_last, less_from_is_lt}
use Rattle.bx_tree.proofs.order.comes_after.Goals as goal

pub returns : goal.returns
returns c =
    let some : 0 < length c.args.files.now = grind arith in (
      λ t. after_all c.args.files.now c.index-files-files.result c.args.text.now c.requires c.index-files-files.is
          (less_from_is_lt _ (ap is_lt (sym c.text_order.ensures) ∙ sym c.is_lt.ensures ∙ t)),
      λ h. c.is_lt.ensures ∙ ap is_lt (c.text_order.ensures ∙ after_last c.args.files.now c.index-files-files.result c.args.text.now some c.index-files-files.is h),
    )
