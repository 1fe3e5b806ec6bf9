-- Which pips can produce a path by an output that is no input of a process.
use Rattle.std.specs.Prelude.{ℕ, ◌+◌, Bool, false, ◌&&◌, ◌||◌, not, ◌==◌, if◌then◌else◌}
use Rattle.std.specs.Prelude.{List, [], ◌∷◌, Option, Some, None}
use Rattle.std.specs.List.{list_any}
use Rattle.std.specs.Option.{option_map_or}
use Rattle.bx_tree.specs.Paths.{Atoms, has_path, same_path}
use Rattle.pip_model_types.specs.declared.dir_inputs.DirInput.{DirInput}
use Rattle.pip_model_types.specs.declared.dir_inputs.DirInput.TheVariants.{Sealed, Opaque}
use Rattle.pip_model_types.specs.declared.outputs.OutDir.{OutDir}
use Rattle.pip_model_types.specs.declared.pip.Pip.{Pip}
use Rattle.pip_model_types.specs.declared.pip.PipKind.{PipKind}
use Rattle.pip_model_types.specs.declared.pip.PipKind.TheVariants.{Process, Copy, Write, Seal}
use Rattle.bx_tree.specs.Below.{is_below}
use Rattle.pip_model_types.specs.Kinds.{taken_dirs}
use Rattle.pip_model_types.specs.Outputs.{is_console}

abbrev pub dirs_at : Option Pip → List DirInput
dirs_at None = []
dirs_at (Some pip) = taken_dirs pip.kind

-- whether this is that output directory of that pip
abbrev pub is_dir_of : ℕ → Atoms → DirInput → Bool
is_dir_of pip path (Sealed maker form root) = false
is_dir_of pip path (Opaque maker dir) = maker == pip && same_path dir path

-- whether the output directory of that pip is among the directories that are taken
abbrev pub takes_dir : List DirInput → ℕ → Atoms → Bool
takes_dir dirs pip path = list_any (is_dir_of pip path) dirs

-- whether the path lies in an output directory of that pip that is not among those that are taken
abbrev pub is_unseen_in : List DirInput → ℕ → Atoms → OutDir → Bool
is_unseen_in dirs j path out = is_below path out.path && not (takes_dir dirs j out.path)

-- Whether pip j can produce the path by an output other than those directories: by a declared output file,
-- by its console file, or by an output directory that is not among them.
abbrev pub produces_unseen : List DirInput → ℕ → Atoms → PipKind → Bool
produces_unseen dirs j path (Process d) =
    has_path d.outs path
    || is_console d.console path
    || list_any (is_unseen_in dirs j path) d.outdirs
produces_unseen dirs j path (Copy d) = same_path d.to path
produces_unseen dirs j path (Write d) = same_path d.to path
produces_unseen dirs j path (Seal d) = false

-- the least of these pips, numbered from j on, other than pip i, that can produce the path so
abbrev pub least_unseen : List DirInput → ℕ → Atoms → ℕ → List Pip → Option ℕ
least_unseen dirs i path j [] = None
least_unseen dirs i path j (pip ∷ pips) =
    if not (j == i) && produces_unseen dirs j path pip.kind then Some j
    else least_unseen dirs i path (j + 1) pips
