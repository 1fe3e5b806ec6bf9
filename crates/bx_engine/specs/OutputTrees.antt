-- The files of an output: a tree of the report and of files below `out`.
use Rattle.std.specs.Prelude.{◌≡◌, ℕ, List, ◌⊎◌}
use Rattle.std.specs.List.{AllByRecursion}
use Rattle.bx_tree.specs.Bundle.{bundle}
use Rattle.bx_tree.specs.Paths.{Atoms, IsBelow}
use Rattle.bx_tree.specs.Trees.{Files, IsTree, paths_of}
use Rattle.graph_check_outputs.specs.OutsideOut.{out_dir}
use Rattle.bx_engine.specs.Ending.{report_path}
use Rattle.bx_engine.specs.Known.{Appends, AppendsPrefix}

-- the path of the report, or one strictly below `out`
abbrev pub IsOutputPath : Atoms → Type 0
IsOutputPath path = (path ≡ report_path) ⊎ IsBelow path out_dir

-- a tree, all of whose files are the report or lie below `out`
pub record IsOutputTree (files : Files) : Type 0 where
  pub tree : IsTree files
  pub places : AllByRecursion IsOutputPath (paths_of files)

-- the text is the bundle of such a tree
abbrev pub IsOutputText : List ℕ → Type 0
IsOutputText text = (files : Files) × IsOutputTree files × (text ≡ bundle files)

-- the bundle of such a tree was appended
pub record IsTreeWritten (before now : List ℕ) : Type 0 where
  pub files : Files
  pub output : IsOutputTree files
  pub appended : Appends before now (bundle files)

-- a prefix of the bundle of such a tree was appended
pub record IsTreeBegun (before now : List ℕ) : Type 0 where
  pub files : Files
  pub output : IsOutputTree files
  pub appended : AppendsPrefix before now (bundle files)
