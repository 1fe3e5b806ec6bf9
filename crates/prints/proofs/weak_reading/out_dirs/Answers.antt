use Rattle.bx_tree.proofs.InOrder.{set_same}
use Rattle.pip_model_types.specs.Orders.{outdir_cmp_total}
use Rattle.prints.proofs.WeakTexts.{rising_itself}
use Rattle.prints.proofs.weak_reading.out_dirs.Goals as goal

pub returns : goal.returns
returns c = set_same outdir_cmp_total c.args.dirs.items c.of.result (rising_itself outdir_cmp_total c.args.dirs.items c.requires) c.of.ensures
