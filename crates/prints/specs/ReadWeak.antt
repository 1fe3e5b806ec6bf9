-- What a weak text is read as.
use Rattle.std.specs.Prelude.{ℕ, ◌+◌, Bool, true, false, not, List, [], ◌∷◌, map, codes, Option, Some, None}
use Rattle.std.specs.Prelude.{if◌then◌else◌}
use Rattle.std.specs.Cmp.Lexicographic.{slice_cmp}
use Rattle.std.specs.Ordering.{is_lt, nat_cmp}
use Rattle.std.specs.Str.{bytes_eq}
use Rattle.bx_tree.specs.Paths.{Atoms, path_cmp}
use Rattle.bx_tree.specs.declared.file_input.FileInput.{FileInput}
use Rattle.bx_tree.specs.declared.file_input.FileInput.TheVariants.{Source}
use Rattle.observed.specs.Texts.{after_prefix, named_path}
use Rattle.pip_model_types.specs.Dirs.{dir_cmp}
use Rattle.pip_model_types.specs.Outputs.{outdir_cmp}
use Rattle.pip_model_types.specs.declared.args.EnvPair.{EnvPair}
use Rattle.pip_model_types.specs.declared.dir_inputs.SealForm.{SealForm}
use Rattle.pip_model_types.specs.declared.dir_inputs.SealForm.TheVariants.{Full, Partial, SourceTop, SourceAll}
use Rattle.pip_model_types.specs.declared.dir_inputs.DirInput.{DirInput}
use Rattle.pip_model_types.specs.declared.dir_inputs.DirInput.TheVariants.{Sealed, Opaque}
use Rattle.pip_model_types.specs.declared.outputs.OutDir.{OutDir}
use Rattle.prints.specs.Lines.{begins, lines_at, rises}
use Rattle.prints.specs.Parts.{counted_at, digest_at, number_at, part_at, path_at}
use Rattle.prints.specs.Reading.{Taken, ◌>>=◌, after_word, as_at, both_at, only_at, whole_of}
use Rattle.prints.specs.declared.weak_parts.WeakParts.{WeakParts}
use Rattle.prints.specs.declared.weak_lines.DirLine.{DirLine}
use Rattle.prints.specs.declared.weak_lines.FileLine.{FileLine}
use Rattle.prints.specs.declared.weak_reading.Head.{Head}
use Rattle.prints.specs.declared.weak_reading.Lists.{Lists}

-- ## Lines

abbrev pub exe_at : List ℕ → Taken (Atoms × List ℕ)
exe_at = after_word (codes "exe ") (both_at (path_at 32) (digest_at 10))

abbrev pub cwd_at : List ℕ → Taken Atoms
cwd_at = after_word (codes "cwd ") (path_at 10)

abbrev pub budget_at : List ℕ → Taken ℕ
budget_at = after_word (codes "budget ") (number_at 10)

-- the console file of what is written before the newline
abbrev pub named_console : List ℕ → Option (Option Atoms)
named_console text =
    if bytes_eq text (codes "no-console") then Some None
    else (after_prefix (codes "console ") text >>= named_path >>= λ path. Some (Some path))

abbrev pub console_at : List ℕ → Taken (Option Atoms)
console_at text = part_at 10 text >>= λ part. named_console part.0 >>= λ console. Some (console, part.1)

abbrev pub arg_at : List ℕ → Taken (List ℕ)
arg_at = after_word (codes "arg ") (counted_at 10)

abbrev pub env_pair : List ℕ × List ℕ → EnvPair
env_pair p = record { name = p.0; value = p.1 }

abbrev pub env_at : List ℕ → Taken EnvPair
env_at = as_at env_pair (after_word (codes "env ") (both_at (counted_at 32) (counted_at 10)))

abbrev pub file_line : Atoms × List ℕ → FileLine
file_line p = record { path = p.0; digest = p.1 }

abbrev pub in_at : List ℕ → Taken FileLine
in_at = as_at file_line (after_word (codes "in ") (both_at (path_at 32) (digest_at 10)))

abbrev pub named_form : List ℕ → Option (Option SealForm)
named_form text =
    if bytes_eq text (codes "full") then Some (Some Full)
    else if bytes_eq text (codes "partial") then Some (Some Partial)
    else if bytes_eq text (codes "source-top") then Some (Some SourceTop)
    else if bytes_eq text (codes "source-all") then Some (Some SourceAll)
    else if bytes_eq text (codes "opaque") then Some None
    else None

abbrev pub form_at : List ℕ → Taken (Option SealForm)
form_at text = part_at 32 text >>= λ part. named_form part.0 >>= λ form. Some (form, part.1)

abbrev pub line_of_dir : Option SealForm × Atoms → DirLine
line_of_dir p = record { form = p.0; path = p.1 }

abbrev pub indir_at : List ℕ → Taken DirLine
indir_at = as_at line_of_dir (after_word (codes "indir ") (both_at form_at (path_at 10)))

abbrev pub out_at : List ℕ → Taken Atoms
out_at = after_word (codes "out ") (path_at 10)

abbrev pub named_sharing : List ℕ → Option Bool
named_sharing text =
    if bytes_eq text (codes "exclusive") then Some false
    else if bytes_eq text (codes "shared") then Some true
    else None

abbrev pub sharing_at : List ℕ → Taken Bool
sharing_at text = part_at 32 text >>= λ part. named_sharing part.0 >>= λ shared. Some (shared, part.1)

abbrev pub outdir_of : Bool × Atoms → OutDir
outdir_of p = record { path = p.1; shared = p.0 }

abbrev pub outdir_at : List ℕ → Taken OutDir
outdir_at = as_at outdir_of (after_word (codes "outdir ") (both_at sharing_at (path_at 10)))

-- ## Lists

abbrev pub path_before : Atoms → Atoms → Bool
path_before a b = is_lt (path_cmp a b)

-- names may be equal
abbrev pub not_after : EnvPair → EnvPair → Bool
not_after a b = not (is_lt (slice_cmp nat_cmp b.name a.name))

abbrev pub file_before : FileLine → FileLine → Bool
file_before a b = path_before a.path b.path

abbrev pub dir_before : DirInput → DirInput → Bool
dir_before a b = is_lt (dir_cmp a b)

abbrev pub outdir_before : OutDir → OutDir → Bool
outdir_before a b = is_lt (outdir_cmp a b)

unfoldable pub args_at : List ℕ → Taken (List (List ℕ))
args_at = lines_at (begins (codes "arg ")) arg_at

unfoldable pub envs_at : List ℕ → Taken (List EnvPair)
envs_at = only_at (rises not_after) (lines_at (begins (codes "env ")) env_at)

unfoldable pub ins_at : List ℕ → Taken (List FileLine)
ins_at = only_at (rises file_before) (lines_at (begins (codes "in ")) in_at)

-- the directory of a line, as that of a pip
abbrev pub dir_of : ℕ → Option SealForm → Atoms → DirInput
dir_of pip (Some form) path = Sealed pip form path
dir_of pip None path = Opaque pip path

-- the directories of lines, numbered from here on
abbrev pub dirs_from : ℕ → List DirLine → List DirInput
dirs_from k [] = []
dirs_from k (d ∷ ds) = dir_of k d.form d.path ∷ dirs_from (k + 1) ds

unfoldable pub indirs_at : List ℕ → Taken (List DirInput)
indirs_at = only_at (rises dir_before) (as_at (dirs_from 0) (lines_at (begins (codes "indir ")) indir_at))

unfoldable pub outs_at : List ℕ → Taken (List Atoms)
outs_at = only_at (rises path_before) (lines_at (begins (codes "out ")) out_at)

unfoldable pub outdirs_at : List ℕ → Taken (List OutDir)
outdirs_at = only_at (rises outdir_before) (lines_at (begins (codes "outdir ")) outdir_at)

-- ## The text

abbrev pub head_of : (Atoms × List ℕ) × (Atoms × (ℕ × Option Atoms)) → Head
head_of p = record { exe = p.0.0; digest = p.0.1; dir = p.1.0; budget = p.1.1.0; console = p.1.1.1 }

unfoldable pub head_at : List ℕ → Taken Head
head_at = as_at head_of (both_at exe_at (both_at cwd_at (both_at budget_at console_at)))

-- the declared files of lines, and their digests
abbrev pub sources_of : List FileLine → List FileInput
sources_of = map (λ (f : FileLine). Source f.path)

abbrev pub digests_of : List FileLine → List (List ℕ)
digests_of = map (λ (f : FileLine). f.digest)

abbrev pub lists_of
    : List (List ℕ) × (List EnvPair × (List FileLine × (List DirInput × (List Atoms × List OutDir)))) → Lists
lists_of p = record {
  args = p.0;
  env = p.1.0;
  files = sources_of p.1.1.0;
  digests = digests_of p.1.1.0;
  dirs = p.1.1.1.0;
  outs = p.1.1.1.1.0;
  outdirs = p.1.1.1.1.1;
}

unfoldable pub lists_from : List ℕ → Taken Lists
lists_from =
    as_at lists_of
    (both_at args_at (both_at envs_at (both_at ins_at (both_at indirs_at (both_at outs_at outdirs_at)))))

abbrev pub parts_of : Head × Lists → WeakParts
parts_of p = record {
  process = record {
    exe = p.0.exe;
    args = p.1.args;
    env = p.1.env;
    dir = p.0.dir;
    files = p.1.files;
    dirs = p.1.dirs;
    outs = p.1.outs;
    outdirs = p.1.outdirs;
    console = p.0.console;
  };
  budget = p.0.budget;
  exe = p.0.digest;
  files = p.1.digests;
}

abbrev pub weak_at : List ℕ → Taken WeakParts
weak_at = as_at parts_of (after_word (codes "bxl 1\n") (both_at head_at lists_from))

-- what has this weak text, if anything has
unfoldable pub read_weak_text : List ℕ → Option WeakParts
read_weak_text = whole_of weak_at
