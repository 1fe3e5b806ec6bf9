use Rattle.std.proofs.Common.{◌≡◌, List, drop}
use Rattle.std.specs.List.{list_any}
use Rattle.bx_tree.specs.Paths.{Atoms}
use Rattle.pip_model_types.specs.Made.{made_files}
use Rattle.violations.specs.DoubleWrites.{shared_paths}
use Rattle.one_thread.specs.Shared.{KeepsShared, any_clash}
use Rattle.one_thread.proofs.shared.SharedFiles.any_clashes.Given as goal

abbrev pub invariant-files : goal.invariant-files
invariant-files l =
    (paths : List Atoms) → KeepsShared l.self.files l.self.dirs paths
    → list_any (any_clash paths) (shared_paths l.dirs (made_files (drop l.file-index l.files)))
    ≡ list_any (any_clash paths) (shared_paths l.dirs (made_files l.files))
