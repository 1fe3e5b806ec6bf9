use Rattle.std.proofs.Common.{◌∙◌, sym}
use Rattle.bx_tree.proofs.BelowPaths.{below_decides}
use Rattle.bx_tree.proofs.below.next_atom.Goals as goal

pub text_below-requires : goal.text_below-requires
text_below-requires c = (below_decides c.args.path.now c.args.dir.now).0 (sym c.is_below.ensures.value ∙ c.if-not-is_below.false)
