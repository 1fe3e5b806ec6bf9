-- Directories that do not list their files, and which of them are in a range of texts.
use Rattle.std.specs.Prelude.{◌≡◌, ◌↔◌, ◌⊎◌, Bool, true, ℕ, List, Contains}
use Rattle.bx_tree_paths.specs.Spans.{IsBetween}
use Rattle.pip_model_types.specs.Dirs.{RiseByForm, dir_path, is_source_form}
use Rattle.pip_model_types.specs.declared.dir_inputs.DirInput.{DirInput}
use Rattle.pip_model_types.specs.declared.dir_inputs.DirInput.TheVariants.{Sealed, Opaque}
use Rattle.pip_model_types.specs.declared.dir_inputs.SealForm.{SealForm}
use Rattle.pip_model_types.specs.declared.dir_inputs.SealForm.TheVariants.{Full, Partial, SourceTop, SourceAll}

-- whether a directory does not list its files
abbrev pub is_other : DirInput → Bool
is_other (Sealed pip form root) = is_source_form form
is_other (Opaque pip path) = true

-- just those of the directories that do not list their files, in order
pub record AreOthers (dirs others : List DirInput) : Type 0 where
  pub rising : RiseByForm others
  pub all : (dir : DirInput) → Contains others dir ↔ (Contains dirs dir × (is_other dir ≡ true))

-- the text of the directory's path comes before one text, and not before another
abbrev pub IsWithin : List ℕ → List ℕ → DirInput → Type 0
IsWithin low high dir = IsBetween low high (dir_path dir)

-- some of the directories with all of which this holds, beside those that were there
pub record AddsAll (dirs : List DirInput) (P : DirInput → Type 0) (old new : List DirInput) : Type 0 where
  pub kept : (dir : DirInput) → Contains old dir → Contains new dir
  pub only : (dir : DirInput) → Contains new dir → Contains old dir ⊎ Contains dirs dir
  pub added : (dir : DirInput) → Contains dirs dir → P dir → Contains new dir
