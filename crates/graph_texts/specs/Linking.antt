-- Pips of what their lines say, in which a seal is named by its pip alone.
use Rattle.std.specs.Prelude.{◌≡◌, ℕ, if◌then◌else◌, List, [], ◌∷◌, ◌++◌, map, slice_get, Option, Some, None, Result, Ok, Err, ⊤}
use Rattle.pip_model_types.specs.Makers.{FitsAfter}
use Rattle.pip_model_types.specs.declared.dir_inputs.DirInput.{DirInput}
use Rattle.pip_model_types.specs.declared.dir_inputs.DirInput.TheVariants.{Sealed, Opaque}
use Rattle.pip_model_types.specs.declared.pip.Pip.{Pip}
use Rattle.pip_model_types.specs.declared.pip.PipKind.{PipKind}
use Rattle.pip_model_types.specs.declared.pip.PipKind.TheVariants as kinds
use Rattle.pip_model_types.specs.declared.pip.ProcessDesc.{ProcessDesc}
use Rattle.prints.specs.Lines.{rises}
use Rattle.prints.specs.ReadWeak.{dir_before}
use Rattle.prints.specs.Reading.{Taken, ◌>>=◌}
use Rattle.prints.specs.declared.fault.PrintFault.{PrintFault}
use Rattle.prints.specs.declared.fault.PrintFault.TheVariants as faults
use Rattle.graph_texts.specs.Pips.{ArePips, pip_row}
use Rattle.graph_texts.specs.declared.rows.DirRef.{DirRef}
use Rattle.graph_texts.specs.declared.rows.DirRef.TheVariants.{OfSeal, OfProcess}
use Rattle.graph_texts.specs.declared.rows.PipRow.{PipRow}
use Rattle.graph_texts.specs.declared.rows.ProcessRow.{ProcessRow}
use Rattle.graph_texts.specs.declared.rows.RowKind.{RowKind}
use Rattle.graph_texts.specs.declared.rows.RowKind.TheVariants as rows

-- the directory of the seal that a pip is
abbrev pub seal_dir : ℕ → PipKind → Option DirInput
seal_dir pip (kinds.Seal d) = Some (Sealed pip d.form d.root)
seal_dir pip (kinds.Process d) = None
seal_dir pip (kinds.Copy d) = None
seal_dir pip (kinds.Write d) = None

abbrev pub seal_dir_of : ℕ → Option Pip → Option DirInput
seal_dir_of number None = None
seal_dir_of number (Some pip) = seal_dir number pip.kind

-- the directory that a line names, after these pips
abbrev pub named_dir : List Pip → DirRef → Option DirInput
named_dir pips (OfSeal pip) = seal_dir_of pip (slice_get pips pip)
named_dir pips (OfProcess pip path) = Some (Opaque pip path)

abbrev pub named_dirs : List Pip → List DirRef → Option (List DirInput)
named_dirs pips [] = Some []
named_dirs pips (d ∷ ds) =
    named_dir pips d >>= λ dir. named_dirs pips ds >>= λ dirs. Some (dir ∷ dirs)

-- directories, if they rise
abbrev pub if_rising : List DirInput → Option (List DirInput)
if_rising dirs = if rises dir_before dirs then Some dirs else None

-- the directories that lines name, if each is there and they rise
abbrev pub rising_named : List Pip → List DirRef → Option (List DirInput)
rising_named pips dirs = named_dirs pips dirs >>= if_rising

abbrev pub process_with : ProcessRow → List DirInput → ProcessDesc
process_with r dirs = record {
  exe = r.exe;
  args = r.args;
  env = r.env;
  dir = r.dir;
  files = r.files;
  dirs = dirs;
  outs = r.outs;
  outdirs = r.outdirs;
  console = r.console;
}

abbrev pub linked_process : List Pip → ProcessRow → Option ProcessDesc
linked_process pips r = rising_named pips r.dirs >>= λ dirs. Some (process_with r dirs)

-- what a pip with these lines does, after these pips
abbrev pub linked_kind : List Pip → RowKind → Option PipKind
linked_kind pips (rows.Process r) = linked_process pips r >>= λ d. Some (kinds.Process d)
linked_kind pips (rows.Copy d) = Some (kinds.Copy d)
linked_kind pips (rows.Write d) = Some (kinds.Write d)
linked_kind pips (rows.Seal d) = Some (kinds.Seal d)

abbrev pub linked_pip : List Pip → PipRow → Option Pip
linked_pip pips r = linked_kind pips r.kind >>= λ kind. Some (record { spec = r.spec; kind = kind })

-- The pip with these lines was added, which may come next; or none with these lines may. Nothing is said where
-- memory runs out.
abbrev pub AddsLinked : Result (Unit {0}) PrintFault → PipRow → List Pip → List Pip → Type 0
AddsLinked (Ok done) row before now =
    (pip : Pip) × (linked_pip before row ≡ Some pip) × FitsAfter before pip × (now ≡ before ++ pip ∷ [])
AddsLinked (Err faults.BadPrint) row before now =
    (pip : Pip) → linked_pip before row ≡ Some pip → FitsAfter before pip → ⊥
AddsLinked (Err faults.Memory) row before now = ⊤

-- These pips have these lines, and are a list of pips in which directories are in order.
pub record Links (rows : List PipRow) (pips : List Pip) : Type 0 where
  pub rows_are : map pip_row pips ≡ rows
  pub are : ArePips pips

-- the pips that have these lines, unless none have or memory runs out
abbrev pub LinksTo : Result (List Pip) PrintFault → List PipRow → Type 0
LinksTo (Ok pips) rows = Links rows pips
LinksTo (Err faults.BadPrint) rows = (pips : List Pip) → Links rows pips → ⊥
LinksTo (Err faults.Memory) rows = ⊤

-- The pips whose lines were read, and what is left of the text; or what was read is of no pips, or nothing was
-- read. Nothing is said where memory runs out.
abbrev pub TakesPips : Result (List Pip) PrintFault → List ℕ → Taken (List PipRow) → Type 0
TakesPips (Ok pips) rest taken = (rows : List PipRow) × (taken ≡ Some (rows, rest)) × Links rows pips
TakesPips (Err faults.BadPrint) rest taken =
    (rows : List PipRow) (pips : List Pip) (left : List ℕ) → taken ≡ Some (rows, left) → Links rows pips → ⊥
TakesPips (Err faults.Memory) rest taken = ⊤
