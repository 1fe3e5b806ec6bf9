use Rattle.std.proofs.Common.{get_or}
use Rattle.std.proofs.lemmas.Bool.{eqb-true, eq-eqb}
use Rattle.bx_tree.proofs.TreeGrowth.{starts_from_newline, newline_at}
use Rattle.bx_tree.proofs.bundle.starts_with_bytes.Goals as goal

pub returns-then-text-size : goal.returns-then-text-size
returns-then-text-size c = (
  λ t. starts_from_newline c.args.text.now c.args.size c.if-text-size.true (eqb-true (get_or c.args.text.now c.args.size 0) 10 t),
  λ h. eq-eqb (get_or c.args.text.now c.args.size 0) 10 (newline_at c.args.text.now c.args.size h),
)
