-- What pips of each kind list and take.
use Rattle.pip_model_types.specs.declared.pip.PipKind.TheVariants.{Copy, Process, Seal, Write}
use Rattle.std.specs.Prelude.{List, [], Option, Some, None}
use Rattle.bx_tree.specs.declared.file_input.FileInput.{FileInput}
use Rattle.pip_model_types.specs.declared.outputs.OutDir.{OutDir}
use Rattle.pip_model_types.specs.declared.pip.PipKind.{PipKind}
use Rattle.pip_model_types.specs.declared.dir_inputs.DirInput.{DirInput}
use Rattle.pip_model_types.specs.declared.dir_inputs.SealForm.{SealForm}
use Rattle.pip_model_types.specs.declared.dir_inputs.SealForm.TheVariants.{Full, Partial, SourceTop, SourceAll}
use Rattle.pip_model_types.specs.declared.pip.Pip.{Pip}

-- the output directories of a process
abbrev pub outdirs_of : PipKind → List OutDir
outdirs_of (Process d) = d.outdirs
outdirs_of (Copy d) = []
outdirs_of (Write d) = []
outdirs_of (Seal d) = []

-- the directories that a pip takes, none but of a process
abbrev pub taken_dirs : PipKind → List DirInput
taken_dirs (Process d) = d.dirs
taken_dirs (Copy d) = []
taken_dirs (Write d) = []
taken_dirs (Seal d) = []

-- the files that a seal of this form lists
abbrev pub form_files : SealForm → List FileInput → List FileInput
form_files Full files = files
form_files Partial files = files
form_files SourceTop files = []
form_files SourceAll files = []

-- the files that a pip lists, none but of a full or partial seal
abbrev pub listed_files : PipKind → List FileInput
listed_files (Process d) = []
listed_files (Copy d) = []
listed_files (Write d) = []
listed_files (Seal d) = form_files d.form d.files

abbrev pub listed_in : Option Pip → List FileInput
listed_in None = []
listed_in (Some pip) = listed_files pip.kind
