use Rattle.dscript_names.proofs.Owning.{owner_more}
use Rattle.dscript_names.proofs.owners.add_files.Goals as goal

pub files-preserved : goal.files-preserved
files-preserved c = λ q.
    owner_more q c.args.files.now c.files.file-index _ c.in_ok-share.field-0 c.args.number _ _ _
    (c.in_ok-insert.ensures.updates.0 q) (c.files.invariant q) c.in_ok-share.ensures c.files-test.true c.file-item.is
