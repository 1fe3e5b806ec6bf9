use Rattle.std.proofs.Common.{ap, map}
use Rattle.dscript_value.specs.Plain.{item_list, plain_of, plain_values}
use Rattle.dscript_eval_frames.specs.Forms.{acts_at, each_form}
use Rattle.dscript_eval_frames.specs.Views.{seen}
use Rattle.dscript_eval_frames.specs.Works.{comes_by}
use Rattle.dscript_eval_frames.proofs.Kept.{keeps_at}
use Rattle.dscript_eval.proofs.callbacks.callbacks_of.Goals as goal

pub returns-in-Reduce : goal.returns-in-Reduce
returns-in-Reduce c =
    let v = seen c.args.machine.now in
    keeps_at _ _ _ _
    (ap (λ k. comes_by (each_form (acts_at v) k (item_list (plain_values c.args.items).items) (map plain_of c.args.args.now)) v) c.in-Reduce.is)
    c.reduce.ensures

pub returns-in_default : goal.returns-in_default
returns-in_default c = c.each.ensures c.in_default.not-Reduce
