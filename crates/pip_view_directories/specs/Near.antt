-- Directories of seals that list a file at a path or below it.
use Rattle.std.specs.Prelude.{◌≡◌, ℕ, ◌<◌, Bool, true, List, ◌⊎◌, All, Any, Contains, IsSomeAnd}
use Rattle.std.specs.Prelude.{Option, Some, None, length, slice_get}
use Rattle.bx_tree.specs.Below.{IsAtOrBelow}
use Rattle.bx_tree.specs.Paths.{Atoms}
use Rattle.bx_tree.specs.declared.file_input.FileInput.{FileInput}
use Rattle.pip_model_types.specs.Dirs.{RiseByForm, dir_pip}
use Rattle.pip_model_types.specs.Makers.{IsDirAmong}
use Rattle.pip_model_types.specs.declared.dir_inputs.DirInput.{DirInput}
use Rattle.pip_model_types.specs.declared.dir_inputs.DirInput.TheVariants.{Sealed}
use Rattle.pip_model_types.specs.declared.pip.Pip.{Pip}
use Rattle.pip_model_types.specs.declared.pip.PipKind.{PipKind}
use Rattle.pip_model_types.specs.declared.pip.PipKind.TheVariants.{Process, Copy, Write, Seal}
use Rattle.pip_model_types.specs.Kinds.{listed_files}
use Rattle.pip_model.specs.Listings.{has_wide}
use Rattle.pip_model.specs.declared.listings.TheConstants.{FEW_DIRS}
use Rattle.bx_tree.specs.FileInputs.{input_path}

-- the directory of pip j, if it is a seal
abbrev pub kind_dir : ℕ → PipKind → Option DirInput
kind_dir j (Process d) = None
kind_dir j (Copy d) = None
kind_dir j (Write d) = None
kind_dir j (Seal d) = Some (Sealed j d.form d.root)

abbrev pub dir_in : ℕ → Option Pip → Option DirInput
dir_in j None = None
dir_in j (Some pip) = kind_dir j pip.kind

-- directories that a process of these pips takes: each is one of theirs
pub record AreTaken (pips : List Pip) (dirs : List DirInput) : Type 0 where
  pub wide : FEW_DIRS < length dirs → has_wide pips ≡ true
  pub among : All (IsDirAmong pips) dirs

-- pip j is a seal that lists a file at the path or below it
abbrev pub ListsAt : List Pip → ℕ → Atoms → Type 0
ListsAt pips j path =
    IsSomeAnd (slice_get pips j) (λ (pip : Pip).
    Any (λ (f : FileInput). IsAtOrBelow (input_path f) path) (listed_files pip.kind))

-- some of the directories, in their order, with each of a seal that lists a file at the path or below it
pub record AreNear (pips : List Pip) (dirs : List DirInput) (path : Atoms) (near : List DirInput)
    : Type 0 where
  pub rising : RiseByForm near
  pub some : (dir : DirInput) → Contains near dir → Contains dirs dir
  pub all : (dir : DirInput) → Contains dirs dir → ListsAt pips (dir_pip dir) path → Contains near dir

-- directories with that of pip j, if it is a seal and one of those that are taken, and no others but those
pub record AddsDir (pips : List Pip) (dirs : List DirInput) (j : ℕ) (old new : List DirInput) : Type 0 where
  pub kept : (dir : DirInput) → Contains old dir → Contains new dir
  pub only : (dir : DirInput) → Contains new dir → Contains old dir ⊎ Contains dirs dir
  pub added : (dir : DirInput) → dir_in j (slice_get pips j) ≡ Some dir → Contains dirs dir → Contains new dir

-- those of the directories that are of one of these seals
pub record AreOfSeals (pips : List Pip) (dirs : List DirInput) (seals : List ℕ) (found : List DirInput)
    : Type 0 where
  pub only : (dir : DirInput) → Contains found dir → Contains dirs dir
  pub all : (j : ℕ) (dir : DirInput) → Contains seals j → dir_in j (slice_get pips j) ≡ Some dir
      → Contains dirs dir → Contains found dir
