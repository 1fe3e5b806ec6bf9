use Rattle.std.proofs.Common.{not, ap, sym, ◌∙◌}
use Rattle.bx_tree.proofs.BelowPaths.{below_decides}
use Rattle.pip_view.proofs.OneAtom.{directly_by_text, not_directly}
use Rattle.pip_view.proofs.view.is_directly_in.Goals as goal

pub returns-then-not-is_below : goal.returns-then-not-is_below
returns-then-not-is_below c = not_directly c.args.dir.now c.args.path.now (sym c.is_below.ensures.value ∙ c.if-not-is_below.true)

pub text_below-requires : goal.text_below-requires
text_below-requires c = (below_decides c.args.path.now c.args.dir.now).0 (sym c.is_below.ensures.value ∙ c.if-not-is_below.false)

pub returns : goal.returns
returns c =
    ap not c.contains.ensures.value
    ∙ directly_by_text c.args.dir.now c.args.path.now c.text_below.result.now c.text_below.ensures.rest
