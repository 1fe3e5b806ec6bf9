-- The files that a process takes by name: its executable, its declared files, and those of seals that list them.
use Rattle.std.specs.Prelude.{ℕ, Bool, if◌then◌else◌, List, [], ◌∷◌, ◌++◌, Option, Some, None, map}
use Rattle.std.specs.Prelude.{slice_get}
use Rattle.std.specs.List.{filter_map, flat_map, list_any}
use Rattle.bx_tree.specs.Paths.{Atoms, same_path}
use Rattle.bx_tree.specs.declared.file_input.FileInput.{FileInput}
use Rattle.bx_tree.specs.declared.file_input.FileInput.TheVariants.{Source}
use Rattle.bx_tree.specs.Below.{is_below, next_atom}
use Rattle.pip_model_types.specs.declared.dir_inputs.DirInput.{DirInput}
use Rattle.pip_model_types.specs.declared.dir_inputs.DirInput.TheVariants.{Sealed, Opaque}
use Rattle.pip_model_types.specs.declared.pip.Pip.{Pip}
use Rattle.pip_model_types.specs.declared.pip.ProcessDesc.{ProcessDesc}
use Rattle.bx_tree.specs.Trees.{Files}
use Rattle.pip_view_inputs.specs.Contents.{input_file}
use Rattle.pip_view_inputs.specs.Results.{ByPip}
use Rattle.pip_model_types.specs.Kinds.{form_files, listed_in}
use Rattle.bx_tree.specs.FileInputs.{input_path}

-- the files that a directory lists, none but of a full or partial seal
abbrev pub dir_files : List Pip → DirInput → List FileInput
dir_files pips (Sealed pip form root) = form_files form (listed_in (slice_get pips pip))
dir_files pips (Opaque pip path) = []

abbrev pub dirs_files : List Pip → List DirInput → List FileInput
dirs_files pips dirs = flat_map (dir_files pips) dirs

abbrev pub executable : ProcessDesc → FileInput
executable d = Source d.exe

-- the executable, the declared files, and the files of seals, in the order in which they count
abbrev pub taken_files : List Pip → ProcessDesc → List FileInput
taken_files pips d = executable d ∷ d.files ++ dirs_files pips d.dirs

-- the files with their bytes
abbrev pub taken_bytes : Files → ByPip → List FileInput → Files
taken_bytes tree made files = map (input_file tree made) files

-- ## What is asked of them

-- the first of the files at a path
abbrev pub first_at : Atoms → List FileInput → Option FileInput
first_at path [] = None
first_at path (file ∷ files) = if same_path (input_path file) path then Some file else first_at path files

-- whether one of the files lies below a directory
abbrev pub any_below : Atoms → List FileInput → Bool
any_below dir files = list_any (λ (f : FileInput). is_below (input_path f) dir) files

-- the names that the files below a directory add to its listing
abbrev pub taken_names : Atoms → List FileInput → List (List ℕ)
taken_names dir files = filter_map (λ (f : FileInput). next_atom dir (input_path f)) files
