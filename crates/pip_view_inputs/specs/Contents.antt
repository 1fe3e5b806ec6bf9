-- The contents of the files that pips take.
use Rattle.std.specs.Prelude.{ℕ, List, []}
use Rattle.std.specs.Option.{option_map_or}
use Rattle.bx_tree.specs.Paths.{Atoms}
use Rattle.bx_tree.specs.Trees.{Files, file_at}
use Rattle.bx_tree.specs.declared.file_input.FileInput.{FileInput}
use Rattle.bx_tree.specs.declared.file_input.FileInput.TheVariants.{Source, Made}
use Rattle.pip_view_inputs.specs.Results.{ByPip, files_by}
use Rattle.bx_tree.specs.FileInputs.{input_path}

-- the bytes of the file at a path, none where there is no such file
abbrev pub bytes_at : Files → Atoms → List ℕ
bytes_at files path = option_map_or (λ bytes. bytes) (file_at files path) []

-- the bytes of a file that a pip takes: of a source file, or of a file that a pip made
abbrev pub input_bytes : Files → ByPip → FileInput → List ℕ
input_bytes tree made (Source path) = bytes_at tree path
input_bytes tree made (Made path pip) = bytes_at (files_by made pip) path

abbrev pub input_file : Files → ByPip → FileInput → Atoms × List ℕ
input_file tree made file = (input_path file, input_bytes tree made file)
