use Rattle.std.proofs.Common.{List, ap}
use Rattle.dscript_eval_frames.specs.Views.{seen}
use Rattle.dscript_eval_frames.specs.declared.work.Work.{Work}
use Rattle.dscript_eval_frames.proofs.Machines.{reversed_push}
use Rattle.dscript_eval_frames.proofs.machine.Machine.push.Goals as goal

pub returns : goal.returns
returns c =
    ap (λ (ws : List Work). record (seen c.args.self.now) { work = ws })
    (reversed_push _ _ c.args.work c.in_ok-push.ensures.items)
