use Rattle.std.proofs.Common.{sym, arith}
use Rattle.dscript_eval_frames.specs.Statuses.{status_of}
use Rattle.dscript_eval_frames.proofs.Places.{status_out}
use Rattle.dscript_eval_frames.proofs.status.set_status.Goals as goal

pub returns-else-file-len : goal.returns-else-file-len
returns-else-file-len c =
    sym (status_out c.args.constants.now.items c.args.file c.args.decl (status_of c.args.status)
    (omega (arith, c.if-file-len.false, c.len.ensures, c.args.constants.now.ok.0)))
