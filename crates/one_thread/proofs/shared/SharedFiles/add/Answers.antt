use Rattle.one_thread.proofs.SharedSets.{dirs_kept, file_kept}
use Rattle.one_thread.proofs.shared.SharedFiles.add.Goals as goal

pub returns : goal.returns
returns c = λ paths h. record {
  files_are = λ q. file_kept c.args.path.now q paths c.in_ok-shared.shared _ _ c.in_ok-shared.ensures (c.in_ok-insert.ensures.updates.0 q) (h.files_are q);
  dirs_are = λ q. dirs_kept c.args.path.now q paths _ _ (c.in_ok-add_directories.ensures q) (h.dirs_are q);
}
