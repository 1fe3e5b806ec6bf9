-- What holds of the files that a whole build gives.
use Rattle.std.specs.List.{AllByRecursion}
use Rattle.bx_tree.specs.Paths.{IsBelow}
use Rattle.bx_tree.specs.Trees.{Files, NoneNested, paths_of}
use Rattle.graph_check_outputs.specs.OutsideOut.{out_dir}
use Rattle.pip_model_types.specs.Made.{RisingFiles}

-- files strictly below `out`, in the order of their paths, none of which lies below another
pub record AreOutputs (files : Files) : Type 0 where
  pub below : AllByRecursion (λ path. IsBelow path out_dir) (paths_of files)
  pub rising : RisingFiles files
  pub unnested : NoneNested (paths_of files)
