use Rattle.bx_tree.specs.Paths.{path_cmp, same_path}
use Rattle.pip_model_types.proofs.SetsOf.{same_path_exact, set_from_up_to}
use Rattle.pip_model_types.proofs.outputs.Outputs.of.Goals as goal

pub returns : goal.returns
returns c = set_from_up_to same_path path_cmp _ _ same_path_exact c.in_order.ensures
