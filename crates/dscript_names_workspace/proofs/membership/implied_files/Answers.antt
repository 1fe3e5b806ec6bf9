use Rattle.dscript_names_workspace.specs.PathSets.{files_in, has}
use Rattle.dscript_names_workspace.proofs.Owners.{implied_more}
use Rattle.dscript_names_workspace.proofs.membership.implied_files.Goals as goal

pub files-preserved : goal.files-preserved
files-preserved c = λ dir m.
    let added = c.in_ok-add_to_owner.ensures in
    implied_more c.files-files.result.now c.files.file-index c.file-item.result c.args.dirs.now (has c.in_ok-set.set)
    added.0 dir (files_in c.files.implied dir) (files_in c.add_to_owner.new.files dir) c.files-test.true c.file-item.is
    c.in_ok-set.ensures added.1 m (c.files.invariant dir m) (added.2 dir)
