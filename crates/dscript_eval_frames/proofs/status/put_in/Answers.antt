use Rattle.dscript_eval_frames.specs.Statuses.{status_of}
use Rattle.dscript_eval_frames.proofs.Places.{status_set}
use Rattle.dscript_eval_frames.proofs.status.put_in.Goals as goal

pub returns : goal.returns
returns c =
    status_set c.args.constants.now.items c.args.file c.args.decl c.index_mut-row.result.now _ (status_of c.args.status)
    c.requires c.index_mut-row.ensures.value c.put_at.ensures
