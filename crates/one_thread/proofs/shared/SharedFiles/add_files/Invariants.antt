use Rattle.std.proofs.Common.{◌++◌, List, take}
use Rattle.bx_tree.specs.Paths.{Atoms}
use Rattle.pip_model_types.specs.Made.{made_files}
use Rattle.violations.specs.DoubleWrites.{shared_paths}
use Rattle.one_thread.specs.Shared.{KeepsShared}
use Rattle.one_thread.proofs.shared.SharedFiles.add_files.Given as goal

abbrev pub invariant-files : goal.invariant-files
invariant-files l =
    (paths : List Atoms) → KeepsShared l.initial.self.files l.initial.self.dirs paths
    → KeepsShared l.self.files l.self.dirs (paths ++ shared_paths l.dirs (made_files (take l.file-index l.files)))
