-- Files by path, of which only one counts at each path.
use Rattle.std.specs.Prelude.{◌≡◌, ◌≤◌, nat_le, if◌then◌else◌, List, [], map, fold, Contains}
use Rattle.std.specs.Prelude.{Option, Some, None}
use Rattle.std.specs.BTreeMap.{insert_entry, is_at}
use Rattle.std.specs.Map.{lookup}
use Rattle.bx_tree.specs.Paths.{Atoms, path_cmp}
use Rattle.bx_tree.specs.declared.file_input.FileInput.{FileInput}
use Rattle.bx_tree.specs.declared.file_input.FileInput.TheVariants.{Source, Made}
use Rattle.pip_model_types.specs.Inputs.{RiseByPath}
use Rattle.bx_tree.specs.FileInputs.{input_path}

-- Of two files of one path the source file counts, and otherwise that of the lesser maker.
abbrev pub counting : FileInput → FileInput → FileInput
counting (Source path) other = Source path
counting (Made path maker) (Source other) = Source other
counting (Made path maker) (Made other rival) =
    if nat_le maker rival then Made path maker else Made other rival

-- a file, or the one with its path that counts before it
abbrev pub counted : FileInput → Option FileInput → FileInput
counted file None = file
counted file (Some other) = counting file other

-- files by their paths, in the order of paths
abbrev pub FileMap : Type 0
FileMap = List (Atoms × FileInput)

-- the file that is kept for a path, if there is one
abbrev pub file_for : FileMap → Atoms → Option FileInput
file_for files path = lookup (is_at (path_cmp path)) files

abbrev pub put_file : FileMap → FileInput → FileMap
put_file files file =
    insert_entry path_cmp files (input_path file) (counted file (file_for files (input_path file)))

-- the files that count, by path
abbrev pub files_by_path : List FileInput → List FileInput
files_by_path files = map (λ (e : Atoms × FileInput). e.1) (fold put_file [] files)

-- Whether a file may count where another of its path is given: a source file may, and a made file where the
-- other is one of no lesser maker.
abbrev pub MayCount : FileInput → FileInput → Type 0
MayCount (Source path) other = Unit {0}
MayCount (Made path maker) (Source other) = ⊥
MayCount (Made path maker) (Made other rival) = maker ≤ rival

-- Files of the given ones that count, by path: one for each path, beside which no given one forbids it to.
pub record AreCounted (files counted : List FileInput) : Type 0 where
  pub rising : RiseByPath counted
  pub given : (file : FileInput) → Contains counted file → Contains files file
  pub each : (file : FileInput) → Contains files file → Contains (map input_path counted) (input_path file)
  pub least : (file other : FileInput) → Contains counted file → Contains files other
      → input_path other ≡ input_path file → MayCount file other
