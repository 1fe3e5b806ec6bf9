-- The lines of one pip.
use Rattle.std.specs.Prelude.{◌≡◌, ℕ, Bool, true, ◌||◌, List, ◌++◌, codes, Option, Some, None, IfSome}
use Rattle.std.specs.List.{AllByRecursion, flat_map}
use Rattle.bx_tree.specs.Paths.{Atoms, IsPath}
use Rattle.bx_tree.specs.declared.file_input.FileInput.{FileInput}
use Rattle.observed.specs.Texts.{after_prefix}
use Rattle.pip_model_types.specs.declared.args.EnvPair.{EnvPair}
use Rattle.pip_model_types.specs.declared.dir_inputs.SealForm.{SealForm}
use Rattle.pip_model_types.specs.declared.outputs.OutDir.{OutDir}
use Rattle.pip_model_types.specs.declared.pip.CopyDesc.{CopyDesc}
use Rattle.pip_model_types.specs.declared.pip.SealDesc.{SealDesc}
use Rattle.pip_model_types.specs.declared.pip.WriteDesc.{WriteDesc}
use Rattle.prints.specs.Lines.{begins, lines_at, rises}
use Rattle.prints.specs.Parts.{counted_at, counted_part, part_at, path_at, path_part}
use Rattle.prints.specs.Processes.{IsCountable, IsOutDir, IsVariable}
use Rattle.prints.specs.ReadWeak.{args_at, envs_at, named_form, not_after, outdir_before, outdirs_at, outs_at, path_before}
use Rattle.prints.specs.Reading.{Taken, ◌>>=◌, after_word, as_at, both_at, only_at}
use Rattle.prints.specs.Weak.{arg_line, env_line, form_word, out_line, outdir_line}
use Rattle.graph_texts.specs.Either.{first_of, maybe_at, maybe_written}
use Rattle.graph_texts.specs.Inputs.{IsInput, IsRef, input_at, input_before, input_part, ref_at, ref_part}
use Rattle.graph_texts.specs.declared.rows.DirRef.{DirRef}
use Rattle.graph_texts.specs.declared.rows.PipRow.{PipRow}
use Rattle.graph_texts.specs.declared.rows.ProcessRow.{ProcessRow}
use Rattle.graph_texts.specs.declared.rows.RowKind.{RowKind}
use Rattle.graph_texts.specs.declared.rows.RowKind.TheVariants as rows

-- ## Lines of lists

-- a declared file
abbrev pub in_line : FileInput → List ℕ
in_line file = codes "in " ++ input_part 10 file

abbrev pub in_at : List ℕ → Taken FileInput
in_at = after_word (codes "in ") (input_at 10)

-- an input directory
abbrev pub indir_line : DirRef → List ℕ
indir_line dir = codes "indir " ++ ref_part dir

abbrev pub indir_at : List ℕ → Taken DirRef
indir_at = after_word (codes "indir ") ref_at

-- a file that a seal lists
abbrev pub member_line : FileInput → List ℕ
member_line file = codes "member " ++ input_part 10 file

abbrev pub member_at : List ℕ → Taken FileInput
member_at = after_word (codes "member ") (input_at 10)

-- the end of the lists
abbrev pub done_line : List ℕ
done_line = codes "done\n"

abbrev pub done_at : List ℕ → Taken (Unit {0})
done_at text = after_prefix done_line text >>= λ rest. Some (tt, rest)

unfoldable pub ins_at : List ℕ → Taken (List FileInput)
ins_at = only_at (rises input_before) (lines_at (begins (codes "in ")) in_at)

unfoldable pub indirs_at : List ℕ → Taken (List DirRef)
indirs_at = lines_at (begins (codes "indir ")) indir_at

unfoldable pub members_at : List ℕ → Taken (List FileInput)
members_at = only_at (rises input_before) (lines_at (begins (codes "member ")) member_at)

-- ## Writes and copies

-- a file with its text
abbrev pub write_text : Atoms → WriteDesc → List ℕ
write_text spec d = codes "write " ++ (path_part 32 spec ++ (path_part 32 d.to ++ counted_part 10 d.text))

abbrev pub write_row : Atoms → WriteDesc → PipRow
write_row spec d = record { spec = spec; kind = rows.Write d }

abbrev pub write_of : Atoms × (Atoms × List ℕ) → PipRow
write_of p = record { spec = p.0; kind = rows.Write (record { to = p.1.0; text = p.1.1 }) }

-- what follows the word of a write
unfoldable pub write_at : List ℕ → Taken PipRow
write_at = as_at write_of (both_at (path_at 32) (both_at (path_at 32) (counted_at 10)))

-- a file with the bytes of another
abbrev pub copy_text : Atoms → CopyDesc → List ℕ
copy_text spec d = codes "copy " ++ (path_part 32 spec ++ (path_part 32 d.to ++ input_part 10 d.from))

abbrev pub copy_row : Atoms → CopyDesc → PipRow
copy_row spec d = record { spec = spec; kind = rows.Copy d }

abbrev pub copy_of : Atoms × (Atoms × FileInput) → PipRow
copy_of p = record { spec = p.0; kind = rows.Copy (record { from = p.1.1; to = p.1.0 }) }

unfoldable pub copy_at : List ℕ → Taken PipRow
copy_at = as_at copy_of (both_at (path_at 32) (both_at (path_at 32) (input_at 10)))

-- ## Seals

-- a seal: its form and its root, and a line for each file that it lists
abbrev pub seal_text : Atoms → SealDesc → List ℕ
seal_text spec d =
    codes "seal " ++ (path_part 32 spec ++ ((form_word (Some d.form) ++ codes " ") ++ (path_part 10 d.root
    ++ (flat_map member_line d.files ++ done_line))))

abbrev pub seal_row : Atoms → SealDesc → PipRow
seal_row spec d = record { spec = spec; kind = rows.Seal d }

-- the form of a seal that a word stands for
abbrev pub seal_form_in : Option (Option SealForm) → Option SealForm
seal_form_in None = None
seal_form_in (Some form) = form

abbrev pub seal_form_at : List ℕ → Taken SealForm
seal_form_at text =
    part_at 32 text >>= λ part. seal_form_in (named_form part.0) >>= λ form. Some (form, part.1)

abbrev pub seal_of : Atoms × (SealForm × (Atoms × (List FileInput × Unit {0}))) → PipRow
seal_of p = record {
  spec = p.0;
  kind = rows.Seal (record { form = p.1.0; root = p.1.1.0; files = p.1.1.1.0 });
}

unfoldable pub seal_at : List ℕ → Taken PipRow
seal_at =
    as_at seal_of (both_at (path_at 32) (both_at seal_form_at (both_at (path_at 10) (both_at members_at done_at))))

-- ## Processes

-- the lists of a process
abbrev pub lists_text : ProcessRow → List ℕ
lists_text r =
    flat_map arg_line r.args ++ (flat_map env_line r.env ++ (flat_map in_line r.files
    ++ (flat_map indir_line r.dirs ++ (flat_map out_line r.outs ++ (flat_map outdir_line r.outdirs ++ done_line)))))

-- a process: its executable and its working directory, its console file if it has one, and its lists
abbrev pub process_text : Atoms → ProcessRow → List ℕ
process_text spec r =
    codes "process " ++ (path_part 32 spec ++ (path_part 32 r.exe ++ (path_part 10 r.dir
    ++ (maybe_written (codes "console ") (path_part 10) r.console ++ lists_text r))))

abbrev pub whole_row : Atoms → ProcessRow → PipRow
whole_row spec r = record { spec = spec; kind = rows.Process r }

abbrev pub ListParts : Type 0
ListParts =
    List (List ℕ) × (List EnvPair × (List FileInput × (List DirRef × (List Atoms × (List OutDir × Unit {0})))))

unfoldable pub lists_at : List ℕ → Taken ListParts
lists_at =
    both_at args_at (both_at envs_at (both_at ins_at (both_at indirs_at (both_at outs_at (both_at outdirs_at done_at)))))

abbrev pub process_of : Atoms × (Atoms × (Atoms × (Option Atoms × ListParts))) → PipRow
process_of p = record {
  spec = p.0;
  kind = rows.Process (record {
    exe = p.1.0;
    dir = p.1.1.0;
    console = p.1.1.1.0;
    args = p.1.1.1.1.0;
    env = p.1.1.1.1.1.0;
    files = p.1.1.1.1.1.1.0;
    dirs = p.1.1.1.1.1.1.1.0;
    outs = p.1.1.1.1.1.1.1.1.0;
    outdirs = p.1.1.1.1.1.1.1.1.1.0;
  });
}

unfoldable pub process_at : List ℕ → Taken PipRow
process_at =
    as_at process_of (both_at (path_at 32) (both_at (path_at 32) (both_at (path_at 10)
    (both_at (maybe_at (codes "console ") (path_at 10)) lists_at))))

-- ## All kinds

abbrev pub kind_text : Atoms → RowKind → List ℕ
kind_text spec (rows.Process r) = process_text spec r
kind_text spec (rows.Copy d) = copy_text spec d
kind_text spec (rows.Write d) = write_text spec d
kind_text spec (rows.Seal d) = seal_text spec d

-- the lines of a pip
abbrev pub row_text : PipRow → List ℕ
row_text r = kind_text r.spec r.kind

-- whether the lines of a pip come next
abbrev pub is_row : List ℕ → Bool
is_row text =
    begins (codes "process ") text || begins (codes "copy ") text || begins (codes "write ") text
    || begins (codes "seal ") text

unfoldable pub row_at : List ℕ → Taken PipRow
row_at =
    first_of (codes "process ") process_at (first_of (codes "copy ") copy_at
    (first_of (codes "write ") write_at (after_word (codes "seal ") seal_at)))

-- ## What has such lines

-- The lists of a process: of paths, countable texts and numbers of pips, each in its order. The order of
-- directories is not seen in their lines.
pub record AreLists (r : ProcessRow) : Type 0 where
  pub args : AllByRecursion IsCountable r.args
  pub env : AllByRecursion IsVariable r.env
  pub env_order : rises not_after r.env ≡ true
  pub files : AllByRecursion IsInput r.files
  pub files_order : rises input_before r.files ≡ true
  pub dirs : AllByRecursion IsRef r.dirs
  pub outs : AllByRecursion IsPath r.outs
  pub outs_order : rises path_before r.outs ≡ true
  pub outdirs : AllByRecursion IsOutDir r.outdirs
  pub outdirs_order : rises outdir_before r.outdirs ≡ true

pub record IsProcessRow (r : ProcessRow) : Type 0 where
  pub exe : IsPath r.exe
  pub dir : IsPath r.dir
  pub console : IfSome r.console IsPath
  pub lists : AreLists r

pub record IsCopy (d : CopyDesc) : Type 0 where
  pub from : IsInput d.from
  pub to : IsPath d.to

pub record IsWrite (d : WriteDesc) : Type 0 where
  pub to : IsPath d.to
  pub text : IsCountable d.text

pub record IsSeal (d : SealDesc) : Type 0 where
  pub root : IsPath d.root
  pub files : AllByRecursion IsInput d.files
  pub order : rises input_before d.files ≡ true

abbrev pub IsRowKind : RowKind → Type 0
IsRowKind (rows.Process r) = IsProcessRow r
IsRowKind (rows.Copy d) = IsCopy d
IsRowKind (rows.Write d) = IsWrite d
IsRowKind (rows.Seal d) = IsSeal d

-- What has lines.
pub record IsRow (r : PipRow) : Type 0 where
  pub spec : IsPath r.spec
  pub kind : IsRowKind r.kind
