use Rattle.dscript_value.specs.Plain.{plain_of}
use Rattle.dscript_eval.proofs.CallbackReads.{args_as}
use Rattle.dscript_eval.proofs.callbacks.args_with.Goals as goal

pub returns-in-Reduce : goal.returns-in-Reduce
returns-in-Reduce c =
    args_as _ _ _ (plain_of c.args.so_far.now) (plain_of c.args.item.now) c.args.number c.in-Reduce.is c.reduction_args.ensures

pub returns-in-Map : goal.returns-in-Map
returns-in-Map c =
    args_as _ _ _ (plain_of c.args.so_far.now) (plain_of c.args.item.now) c.args.number c.in-Map.is c.item_args.ensures

pub returns-in-Filter : goal.returns-in-Filter
returns-in-Filter c =
    args_as _ _ _ (plain_of c.args.so_far.now) (plain_of c.args.item.now) c.args.number c.in-Filter.is c.item_args-in-Filter.ensures

pub returns-in-MapMany : goal.returns-in-MapMany
returns-in-MapMany c =
    args_as _ _ _ (plain_of c.args.so_far.now) (plain_of c.args.item.now) c.args.number c.in-MapMany.is c.item_args-in-MapMany.ensures
