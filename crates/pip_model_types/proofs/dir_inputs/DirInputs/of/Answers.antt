use Rattle.pip_model_types.specs.Dirs.{dir_cmp, same_dir}
use Rattle.pip_model_types.proofs.SetsOf.{same_dir_exact, set_from_up_to}
use Rattle.pip_model_types.proofs.dir_inputs.DirInputs.of.Goals as goal

pub returns : goal.returns
returns c = set_from_up_to same_dir dir_cmp _ _ same_dir_exact c.in_order.ensures
