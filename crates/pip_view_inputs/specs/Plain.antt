-- What is made by pips that are no processes, and processes with the contents of their files.
use Rattle.std.specs.Prelude.{ℕ, List, [], ◌∷◌, map, Option, Some, None, slice_get}
use Rattle.pip_view_inputs.specs.Results.{ByPip}
use Rattle.bx_tree.specs.Trees.{Files}
use Rattle.pip_model_types.specs.declared.pip.Pip.{Pip}
use Rattle.pip_model_types.specs.declared.pip.PipKind.{PipKind}
use Rattle.pip_model_types.specs.declared.pip.PipKind.TheVariants.{Process, Copy, Write, Seal}
use Rattle.pip_model_types.specs.declared.pip.ProcessDesc.{ProcessDesc}
use Rattle.pip_model_types.specs.declared.desc.Desc.{Desc}
use Rattle.pip_view_inputs.specs.Contents.{bytes_at, input_bytes, input_file}

-- what a copy or write pip makes: its one file; a seal makes none
abbrev pub plain_of : Files → ByPip → PipKind → Files
plain_of tree made (Process d) = []
plain_of tree made (Copy d) = (d.to, input_bytes tree made d.from) ∷ []
plain_of tree made (Write d) = (d.to, d.text) ∷ []
plain_of tree made (Seal d) = []

-- a process with the contents of its executable and of its declared files
abbrev pub desc_of : Files → ByPip → ℕ → ProcessDesc → Desc
desc_of tree made budget d = record {
  process = d;
  exe = bytes_at tree d.exe;
  files = map (input_file tree made) d.files;
  budget = budget;
}

abbrev pub plain_in : Files → ByPip → Option Pip → Files
plain_in tree made None = []
plain_in tree made (Some pip) = plain_of tree made pip.kind

-- what pip i makes, which is no process
abbrev pub plain_at : List Pip → Files → ByPip → ℕ → Files
plain_at pips tree made i = plain_in tree made (slice_get pips i)

-- the process that a pip is, if it is one
abbrev pub kind_process : PipKind → Option ProcessDesc
kind_process (Process d) = Some d
kind_process (Copy d) = None
kind_process (Write d) = None
kind_process (Seal d) = None

abbrev pub process_in : Option Pip → Option ProcessDesc
process_in None = None
process_in (Some pip) = kind_process pip.kind
