use Rattle.bx_tree.proofs.InOrder.{set_same}
use Rattle.pip_model_types.specs.Orders.{dir_cmp_total}
use Rattle.prints.proofs.WeakTexts.{rising_itself}
use Rattle.prints.proofs.weak_reading.dir_inputs.Goals as goal

pub returns : goal.returns
returns c = set_same dir_cmp_total c.args.dirs.items c.of.result (rising_itself dir_cmp_total c.args.dirs.items c.requires) c.of.ensures
