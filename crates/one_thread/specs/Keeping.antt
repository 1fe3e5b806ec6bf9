-- Files that keep to the pip that made them.
use Rattle.std.specs.Prelude.{◌≡◌, ◌⊎◌, ℕ, List, take, Some, None, slice_get}
use Rattle.bx_tree.specs.Paths.{Atoms, IsBelow}
use Rattle.bx_tree.specs.Trees.{Files, paths_of}
use Rattle.bx_tree.specs.Members.{Has}
use Rattle.graph_check_outputs.specs.Outputs.{declared_files}
use Rattle.pip_model_types.specs.declared.outputs.OutDir.{OutDir}
use Rattle.pip_model_types.specs.declared.pip.Pip.{Pip}
use Rattle.pip_model_types.specs.declared.pip.PipKind.{PipKind}
use Rattle.violations.specs.DoubleWrites.{clash_of}
use Rattle.pip_model_types.specs.Kinds.{outdirs_of}

-- the pip declares the file, or it lies below a directory that the pip declares
abbrev pub Makes : PipKind → Atoms → Type 0
Makes kind path =
    Has (declared_files kind) path
    ⊎ ((dir : OutDir) × Has (outdirs_of kind) dir × IsBelow path dir.path)

-- The files of pip i of this kind, where the first pips made these files: it makes each of them, none lies
-- below another, and none clashes with a file of an earlier pip.
pub record AreOwnOutputs (pips : List Pip) (made : List Files) (i : ℕ) (kind : PipKind) (files : Files)
    : Type 0 where
  pub makes : (q : Atoms) → Has (paths_of files) q → Makes kind q
  pub unnested : (p q : Atoms) → Has (paths_of files) p → Has (paths_of files) q → IsBelow p q → ⊥
  pub unclashed : clash_of (take i pips) made (outdirs_of kind) files ≡ None

-- these are the files of pip i, and they keep to it
pub record KeptAt (pips : List Pip) (made : List Files) (i : ℕ) (files : Files) : Type 0 where
  pub pip : Pip
  pub at : slice_get pips i ≡ Some pip
  pub keeps : AreOwnOutputs pips made i pip.kind files

-- these are the files of the first pips, and they keep to them
abbrev pub AreKept : List Pip → List Files → Type 0
AreKept pips made = (i : ℕ) (files : Files) → slice_get made i ≡ Some files → KeptAt pips made i files
