use Rattle.bx_tree.specs.Orders.{path_cmp_total}
use Rattle.bx_tree.proofs.InOrder.{set_same}
use Rattle.prints.proofs.WeakTexts.{rising_itself}
use Rattle.prints.proofs.weak_reading.outputs.Goals as goal

pub returns : goal.returns
returns c = set_same path_cmp_total c.args.paths.items c.of.result (rising_itself path_cmp_total c.args.paths.items c.requires) c.of.ensures
