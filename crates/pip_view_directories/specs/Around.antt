-- Directories at, above and below a path.
use Rattle.std.specs.Prelude.{◌≡◌, ◌⊎◌, ℕ, List, Contains, codes, take, slice_index_or}
use Rattle.bx_tree.specs.Paths.{Atoms, TextGoesOn, IsBelow, path_text}
use Rattle.pip_model_types.specs.Dirs.{RiseByForm, dir_path}
use Rattle.pip_model_types.specs.declared.dir_inputs.DirInput.{DirInput}

-- the directory is at the path, above it or below it
abbrev pub IsAround : Atoms → DirInput → Type 0
IsAround path dir = (dir_path dir ≡ path) ⊎ IsBelow path (dir_path dir) ⊎ IsBelow (dir_path dir) path

-- some of the directories, in their order, with each that is at the path, above it or below it
pub record AreAround (dirs : List DirInput) (path : Atoms) (around : List DirInput) : Type 0 where
  pub rising : RiseByForm around
  pub some : (dir : DirInput) → Contains around dir → Contains dirs dir
  pub all : (dir : DirInput) → Contains dirs dir → IsAround path dir → Contains around dir

-- ## By texts

-- the text of the directory's path
abbrev pub HasText : List ℕ → DirInput → Type 0
HasText text dir = path_text (dir_path dir) ≡ text

-- the text goes on after that of the directory's path and a `/`
abbrev pub IsOver : List ℕ → DirInput → Type 0
IsOver text dir = TextGoesOn (path_text (dir_path dir)) text

-- the text of the directory's path goes on after the text and a `/`
abbrev pub IsUnder : List ℕ → DirInput → Type 0
IsUnder text dir = TextGoesOn text (path_text (dir_path dir))

-- a `/` is at this place of the text, and what precedes it is the text of the directory's path
abbrev pub IsPart : List ℕ → ℕ → DirInput → Type 0
IsPart text place dir = (slice_index_or text place 0 ≡ 47) × HasText (take place text) dir

-- the directory is the root, or at the path with the text, above it or below it
abbrev pub IsTextAround : List ℕ → DirInput → Type 0
IsTextAround text dir = HasText (codes ".") dir ⊎ HasText text dir ⊎ IsOver text dir ⊎ IsUnder text dir
