use Rattle.std.proofs.Common.{List, ap}
use Rattle.std.specs.BTreeMap.{is_at}
use Rattle.std.specs.List.{list_any}
use Rattle.bx_tree.specs.Paths.{Atoms, path_cmp}
use Rattle.one_thread.proofs.shared.SharedFiles.new.Goals as goal

pub returns : goal.returns
returns c = record {
  files_are = λ q. ap (λ (ks : List Atoms). list_any (is_at (path_cmp q)) ks) c.new-files.ensures.empty;
  dirs_are = λ q. ap (λ (ks : List Atoms). list_any (is_at (path_cmp q)) ks) c.new-dirs.ensures.empty;
}
