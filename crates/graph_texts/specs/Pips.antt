-- The lines of all pips of a build.
use Rattle.std.specs.Prelude.{ℕ, List, map}
use Rattle.std.specs.List.{AllByRecursion, flat_map}
use Rattle.pip_model_types.specs.Dirs.{RiseByForm}
use Rattle.pip_model_types.specs.Kinds.{taken_dirs}
use Rattle.pip_model_types.specs.Makers.{IsPipList}
use Rattle.pip_model_types.specs.declared.dir_inputs.DirInput.{DirInput}
use Rattle.pip_model_types.specs.declared.dir_inputs.DirInput.TheVariants.{Sealed, Opaque}
use Rattle.pip_model_types.specs.declared.pip.Pip.{Pip}
use Rattle.pip_model_types.specs.declared.pip.PipKind.{PipKind}
use Rattle.pip_model_types.specs.declared.pip.PipKind.TheVariants as kinds
use Rattle.pip_model_types.specs.declared.pip.ProcessDesc.{ProcessDesc}
use Rattle.prints.specs.Lines.{lines_at}
use Rattle.prints.specs.Reading.{Taken}
use Rattle.graph_texts.specs.Rows.{IsRow, is_row, row_at, row_text}
use Rattle.graph_texts.specs.declared.rows.DirRef.{DirRef}
use Rattle.graph_texts.specs.declared.rows.DirRef.TheVariants.{OfSeal, OfProcess}
use Rattle.graph_texts.specs.declared.rows.PipRow.{PipRow}
use Rattle.graph_texts.specs.declared.rows.ProcessRow.{ProcessRow}
use Rattle.graph_texts.specs.declared.rows.RowKind.{RowKind}
use Rattle.graph_texts.specs.declared.rows.RowKind.TheVariants as rows

-- ## What lines say of a pip

-- the form and the root of a seal are those of its own pip
abbrev pub dir_ref : DirInput → DirRef
dir_ref (Sealed pip form root) = OfSeal pip
dir_ref (Opaque pip path) = OfProcess pip path

abbrev pub process_row : ProcessDesc → ProcessRow
process_row d = record {
  exe = d.exe;
  dir = d.dir;
  console = d.console;
  args = d.args;
  env = d.env;
  files = d.files;
  dirs = map dir_ref d.dirs;
  outs = d.outs;
  outdirs = d.outdirs;
}

abbrev pub kind_row : PipKind → RowKind
kind_row (kinds.Process d) = rows.Process (process_row d)
kind_row (kinds.Copy d) = rows.Copy d
kind_row (kinds.Write d) = rows.Write d
kind_row (kinds.Seal d) = rows.Seal d

-- what the lines of a pip say
abbrev pub pip_row : Pip → PipRow
pip_row p = record { spec = p.spec; kind = kind_row p.kind }

-- the lines of a pip
abbrev pub pip_text : Pip → List ℕ
pip_text p = row_text (pip_row p)

-- the lines of pips, by number
abbrev pub pips_text : List Pip → List ℕ
pips_text pips = flat_map pip_text pips

-- ## What is a list of pips

-- a pip with lines, whose directories are in order
pub record IsPip (p : Pip) : Type 0 where
  pub row : IsRow (pip_row p)
  pub dirs : RiseByForm (taken_dirs p.kind)

-- Pips with lines, each of which names as made only what an earlier one makes.
pub record ArePips (pips : List Pip) : Type 0 where
  pub each : AllByRecursion IsPip pips
  pub list : IsPipList pips

-- ## What a text is read as

-- what the lines of pips at the start of a text say
unfoldable pub rows_at : List ℕ → Taken (List PipRow)
rows_at = lines_at is_row row_at
