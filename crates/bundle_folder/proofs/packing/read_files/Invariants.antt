use Rattle.std.proofs.Common.{◌≡◌, ◌≤◌, ℕ, List, length, take}
use Rattle.std.specs.Prelude.{sum_by}
use Rattle.std.specs.List.{All}
use Rattle.bx_tree.specs.Paths.{Atoms}
use Rattle.bx_tree.specs.Trees.{paths_of}
use Rattle.bx_tree.specs.Views.{files_of}
use Rattle.bx_tree.specs.declared.limits.TheConstants.{MAX_BUNDLE_BYTES, MAX_FILE_BYTES}
use Rattle.bx_tree.specs.declared.tree_file.TreeFile.{TreeFile}
use Rattle.bundle_folder.specs.Folders.{Known}
use Rattle.bundle_folder.specs.Steps.{AreRead}
use Rattle.bundle_folder.proofs.packing.read_files.Given as goal

abbrev pub invariant-paths : goal.invariant-paths
invariant-paths g l = record {
  paths : paths_of (files_of l.files.items) ≡ take l.path-index l.paths;
  sizes : All (λ (f : TreeFile). length f.bytes.items ≤ MAX_FILE_BYTES) l.files.items;
  held : Known (g.F.Folder.holds l.fn.folder) (λ nodes. AreRead nodes l.files.items);
  size : l.size ≡ sum_by (λ (f : Atoms × List ℕ). length f.1) (files_of l.files.items);
  bound : l.size ≤ MAX_BUNDLE_BYTES;
  same : g.F.Folder.holds l.folder ≡ g.F.Folder.holds l.fn.folder;
  later : g.F.Folder.faults l.fn.folder ≤ g.F.Folder.faults l.folder;
}
