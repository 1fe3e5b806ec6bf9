-- The least of the paths for which a process fails.
use Rattle.std.specs.Prelude.{◌≡◌, ◌≤◌, ℕ, true, List, Some, None, slice_get}
use Rattle.std.specs.declared.cmp.Ordering.TheVariants.{Less}
use Rattle.bx_tree.specs.Members.{Has}
use Rattle.bx_tree.specs.Paths.{Atoms, path_cmp}
use Rattle.bx_tree.specs.Trees.{Files, file_at}
use Rattle.pip_model_types.specs.declared.pip.Pip.{Pip}
use Rattle.violations.specs.DoubleWrites.{has_clash}
use Rattle.violations.specs.declared.verdict.Violation.{Violation}

-- The path is the least of these at which nothing was written.
pub record IsLeastMissing (outs : List Atoms) (writes : Files) (path : Atoms) : Type 0 where
  pub among : Has outs path
  pub missing : file_at writes path ≡ None
  pub least : (other : Atoms) → Has outs other → file_at writes other ≡ None → path_cmp other path ≡ Less → ⊥

-- pip j clashes with the path
pub record Clashes (before : List Pip) (made : List Files) (path : Atoms) (j : ℕ) : Type 0 where
  pub pip : Pip
  pub files : Files
  pub at : slice_get before j ≡ Some pip
  pub made_at : slice_get made j ≡ Some files
  pub clash : has_clash path pip.kind files ≡ true

-- The violation is at the least of these paths with which one of the pips clashes, and names the least such pip.
pub record IsLeastClash (paths : List Atoms) (before : List Pip) (made : List Files) (v : Violation) : Type 0 where
  pub among : Has paths v.path
  pub pip : ℕ
  pub names : v.other ≡ Some pip
  pub clashes : Clashes before made v.path pip
  pub least_pip : (j : ℕ) → Clashes before made v.path j → pip ≤ j
  pub least : (other : Atoms) (j : ℕ) → Has paths other → Clashes before made other j → path_cmp other v.path ≡ Less → ⊥
