-- Files that pips take.
use Rattle.bx_tree.specs.Paths.{Atoms}
use Rattle.bx_tree.specs.declared.file_input.FileInput.{FileInput}
use Rattle.bx_tree.specs.declared.file_input.FileInput.TheVariants.{Made, Source}

abbrev pub input_path : FileInput → Atoms
input_path (Source path) = path
input_path (Made path maker) = path
