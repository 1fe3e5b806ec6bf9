use Rattle.std.proofs.Common.{map}
use Rattle.dscript_value.specs.Plain.{plain_field}
use Rattle.dscript_eval_frames.specs.Views.{seen}
use Rattle.dscript_eval_exprs.proofs.CollectionMoves.{spread_fields_done}
use Rattle.dscript_eval_frames.proofs.Kept.{keeps_at}
use Rattle.dscript_eval_frames.proofs.Refused.{stops_first}
use Rattle.dscript_eval_exprs.proofs.SpreadFields.{is_spread, spread_refuses}
use Rattle.dscript_eval_exprs.proofs.collections.spread_fields.Goals as goal

pub returns-in-Ok : goal.returns-in-Ok
returns-in-Ok c =
    let v = seen c.args.machine.now in
    let s = is_spread (map plain_field c.args.done.items) v.given (map plain_field c.add_fields.new.fields.items) c.in-Ok.ensures.adds in
    keeps_at _ _ _ _ (spread_fields_done v c.args.others c.args.done c.add_fields.new.fields s.these s.found s.added) c.fields.ensures

pub returns-in-Err : goal.returns-in-Err
returns-in-Err c =
    let v = seen c.args.machine.now in
    stops_first _ _ c.in-Err.fault _ _ v.state c.stop_of.ensures
    (spread_refuses (map plain_field c.args.done.items) v.given c.in-Err.fault c.in-Err.ensures.adds)
