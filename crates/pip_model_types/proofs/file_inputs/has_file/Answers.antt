use Rattle.std.proofs.Common.{sym, ◌∙◌}
use Rattle.bx_tree.specs.FileInputs.{input_path}
use Rattle.bx_tree_paths.proofs.Found.{found_among}
use Rattle.bx_tree_paths.proofs.Rising.{rise_by_text}
use Rattle.pip_model_types.proofs.file_inputs.has_file.Goals as goal

pub place_of-requires : goal.place_of-requires
place_of-requires c = rise_by_text input_path c.args.files.now c.requires

pub returns : goal.returns
returns c =
    let found = found_among input_path c.args.files.now c.args.path.now c.place_of.result c.place_of.ensures in
    (λ t. found.0 (sym c.is_some.ensures ∙ t), λ h. c.is_some.ensures ∙ found.1 h)
