use Rattle.bx_tree.specs.Orders.{equal_paths, path_cmp_total}
use Rattle.dscript_sdk_execute.proofs.Sets.{only_set}
use Rattle.dscript_sdk_execute.proofs.process.set_of_files.Goals as goal

pub returns : goal.returns
returns c = only_set path_cmp_total c.args.paths.items c.of.result (λ x y _ _. equal_paths x y) c.of.ensures
