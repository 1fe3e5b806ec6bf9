use Rattle.pip_model_types.specs.Orders.{dir_cmp_total}
use Rattle.pip_model_types.proofs.SetsOf.{equal_dirs}
use Rattle.dscript_sdk_execute.proofs.Sets.{only_set}
use Rattle.dscript_sdk_execute.proofs.process.set_of_directories.Goals as goal

pub returns : goal.returns
returns c = only_set dir_cmp_total c.args.dirs.items c.of.result (λ x y _ _. equal_dirs x y) c.of.ensures
