use Rattle.std.proofs.Common.{subst, sym}
use Rattle.bx_tree.specs.FileInputs.{input_path}
use Rattle.bx_tree_paths.proofs.Rising.{rise_by_text}
use Rattle.pip_model_types.specs.Inputs.{RiseByPath}
use Rattle.pip_view.proofs.taken.has_among.Goals as goal

pub has_below-requires : goal.has_below-requires
has_below-requires c =
    rise_by_text input_path c.files-files.result.now (subst RiseByPath (sym c.files-files.ensures.files) c.files-files.ensures.rising)
