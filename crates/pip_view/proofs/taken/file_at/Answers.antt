use Rattle.bx_tree.specs.FileInputs.{input_path}
use Rattle.bx_tree_paths.proofs.Rising.{rise_by_text}
use Rattle.pip_view.proofs.FirstAt.{first_found, none_found}
use Rattle.pip_view.proofs.taken.file_at.Goals as goal

pub place_of-requires : goal.place_of-requires
place_of-requires c = rise_by_text input_path c.args.files.now c.requires

pub returns-in-Some : goal.returns-in-Some
returns-in-Some c =
    first_found c.args.path.now c.args.files.now c.in-Some.place c.index-files-place.result c.requires c.in-Some.ensures.0 c.in-Some.ensures.1
    c.index-files-place.is

pub returns-in-None : goal.returns-in-None
returns-in-None c = none_found c.args.path.now c.args.files.now c.in-None.ensures
