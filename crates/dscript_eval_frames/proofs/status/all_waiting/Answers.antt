use Rattle.std.proofs.Common.{ap, arith, ◌∙◌}
use Rattle.dscript_eval_frames.proofs.Waiting.{all_files, one_file, places}
use Rattle.dscript_eval_frames.proofs.status.all_waiting.Goals as goal

pub files-preserved : goal.files-preserved
files-preserved c =
    one_file c.files.rows.items _ c.files-files.result.now c.files.file-index c.file-item.result _ (omega arith) c.file-item.is
    c.in_ok-push.ensures.items c.in_ok-row.ensures c.files.invariant

pub returns : goal.returns
returns c =
    all_files c.files.rows.items c.files-files.result.now c.files.file-index (omega arith) c.files.invariant
    ∙ ap places c.files-files.ensures
