-- What a pip sees.
use Rattle.std.specs.Prelude.{ℕ, Bool, ◌||◌, if◌then◌else◌, List, [], ◌++◌, Option, Some}
use Rattle.std.specs.Prelude.{None, is_some, slice_get}
use Rattle.bx_tree.specs.Paths.{Atoms, is_root}
use Rattle.pip_view_inputs.specs.Results.{ByPip}
use Rattle.bx_tree.specs.Trees.{Files, file_at}
use Rattle.pip_model_types.specs.declared.pip.Pip.{Pip}
use Rattle.pip_model_types.specs.declared.pip.PipKind.{PipKind}
use Rattle.observed.specs.Asks.{asked_names}
use Rattle.observed.specs.declared.ask.AskKind.{AskKind}
use Rattle.observed.specs.declared.ask.AskKind.TheVariants as kinds
use Rattle.observed.specs.declared.ask.Ask.{Ask}
use Rattle.observed.specs.declared.access.Answer.{Answer}
use Rattle.observed.specs.declared.access.Answer.TheVariants as answers
use Rattle.tool_run_writes.specs.Writes.{has_below, own_names}
use Rattle.tool_run.specs.Listings.{add_names, names_text}
use Rattle.pip_view.specs.InputFiles.{input_files}
use Rattle.violations.specs.Producing.{least_unseen}
use Rattle.pip_model_types.specs.Kinds.{taken_dirs}

-- an input file: its bytes are read, and a probe says that a file is there
abbrev pub as_input : AskKind → List ℕ → Answer
as_input kinds.Read bytes = answers.Content bytes
as_input kinds.Probe bytes = answers.File
as_input kinds.List bytes = answers.Absent
as_input (kinds.Match pattern) bytes = answers.Absent

-- a source file that is no input may be probed and not read
abbrev pub as_source : AskKind → Answer
as_source kinds.Read = answers.Denied
as_source kinds.Probe = answers.File
as_source kinds.List = answers.Absent
as_source (kinds.Match pattern) = answers.Absent

-- A read or a probe, of which the first line that applies decides: of an input file; of another source
-- file; of a path that another pip can produce, by an output file or by a directory that is no input; of a path
-- below which a file lies, or the root; of any other path.
abbrev pub looked : AskKind → Option (List ℕ) → Bool → Bool → Bool → Answer
looked kind (Some bytes) source unseen dir = as_input kind bytes
looked kind None source unseen dir =
    if source then as_source kind else
    (if unseen then answers.Denied else (if dir then answers.Directory else answers.Absent))

-- The names of a listing: the next atoms of source files and input files below the path, sorted and
-- distinct. Where one input file lies below another, which no build comes to, they are listed below it too.
abbrev pub names_below : Files → Files → Atoms → List (List ℕ)
names_below tree inputs path = add_names [] (own_names tree path ++ own_names inputs path)

-- those of the names that are asked for, each with a newline after it
abbrev pub listing : AskKind → Files → Files → Atoms → Answer
listing kind tree inputs path = answers.Names (names_text (asked_names kind (names_below tree inputs path)))

abbrev pub answer_at : Files → Files → Bool → AskKind → Atoms → Answer
answer_at tree inputs unseen kinds.List path = listing kinds.List tree inputs path
answer_at tree inputs unseen (kinds.Match pattern) path = listing (kinds.Match pattern) tree inputs path
answer_at tree inputs unseen kinds.Read path =
    looked kinds.Read (file_at inputs path) (is_some (file_at tree path)) unseen
    (has_below tree path || has_below inputs path || is_root path)
answer_at tree inputs unseen kinds.Probe path =
    looked kinds.Probe (file_at inputs path) (is_some (file_at tree path)) unseen
    (has_below tree path || has_below inputs path || is_root path)

abbrev pub kind_sees : List Pip → Files → ByPip → ℕ → PipKind → Ask → Answer
kind_sees pips tree made i kind ask =
    answer_at tree (input_files pips tree made kind) (is_some (least_unseen (taken_dirs kind) i ask.path 0 pips))
    ask.kind ask.path

abbrev pub pip_sees : List Pip → Files → ByPip → ℕ → Option Pip → Ask → Answer
pip_sees pips tree made i None ask = answers.Absent
pip_sees pips tree made i (Some pip) ask = kind_sees pips tree made i pip.kind ask

-- What pip i of these pips sees over this tree, where the pips with these numbers made these files.
abbrev pub sees : List Pip → Files → ByPip → ℕ → Ask → Answer
sees pips tree made i ask = pip_sees pips tree made i (slice_get pips i) ask
