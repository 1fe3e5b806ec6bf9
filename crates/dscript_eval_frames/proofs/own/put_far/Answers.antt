use Rattle.dscript_eval_frames.proofs.OwnLocals.{own_far}
use Rattle.dscript_eval_frames.proofs.own.put_far.Goals as goal

pub returns-clause-put : goal.returns-clause-put
returns-clause-put c own count le =
    own_far own c.args.far.now c.insert.new.self count c.args.place c.args.value c.in_ok-insert.ensures.updates.0 le
