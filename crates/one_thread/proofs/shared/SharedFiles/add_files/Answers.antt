use Rattle.std.proofs.Common.{◌++◌, List, append-nil, sym, subst, take}
use Rattle.std.proofs.lemmas.List.{take_all}
use Rattle.pip_model_types.specs.Made.{made_files}
use Rattle.pip_model_types.specs.declared.made.MadeFile.{MadeFile}
use Rattle.violations.specs.DoubleWrites.{shared_paths}
use Rattle.one_thread.specs.Shared.{KeepsShared}
use Rattle.one_thread.proofs.SharedSets.{shared_taken}
use Rattle.one_thread.proofs.shared.SharedFiles.add_files.Goals as goal

pub files-init : goal.files-init
files-init c = λ paths h. subst (KeepsShared c.args.self.now.files c.args.self.now.dirs) (sym (append-nil paths)) h

pub files-preserved : goal.files-preserved
files-preserved c = λ paths h.
    subst (KeepsShared c.add_if_shared.new.self.files c.add_if_shared.new.self.dirs)
    (shared_taken c.args.dirs.now c.args.files.now c.files.file-index c.file-item.result paths c.files-test.true c.file-item.is)
    (c.in_ok-add_if_shared.ensures (paths ++ shared_paths c.args.dirs.now (made_files (take c.files.file-index c.args.files.now))) (c.files.invariant paths h))

pub returns : goal.returns
returns c = λ paths h.
    subst (λ (fs : List MadeFile). KeepsShared c.files.self.files c.files.self.dirs (paths ++ shared_paths c.args.dirs.now (made_files fs)))
    (take_all c.files.file-index c.args.files.now c.files-test.false) (c.files.invariant paths h)
