use Rattle.pip_model_types.specs.Outputs.{outdir_cmp, same_outdir}
use Rattle.pip_model_types.proofs.SetsOf.{same_outdir_exact, set_from_up_to}
use Rattle.pip_model_types.proofs.outputs.OutDirs.of.Goals as goal

pub returns : goal.returns
returns c = set_from_up_to same_outdir outdir_cmp _ _ same_outdir_exact c.in_order.ensures
