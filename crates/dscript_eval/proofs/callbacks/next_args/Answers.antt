use Rattle.dscript_value.specs.Plain.{plain_of}
use Rattle.dscript_eval.proofs.CallbackReads.{next_args_are}
use Rattle.dscript_eval.proofs.callbacks.next_args.Goals as goal

pub returns-in_ok-args-in-Some : goal.returns-in_ok-args-in-Some
returns-in_ok-args-in-Some c =
    next_args_are c.args.callbacks.now (plain_of c.args.so_far.now) _ _ c.in-Some.ensures c.in_ok-args-in-Some.ensures

pub returns-in-None : goal.returns-in-None
returns-in-None c = c.in-None.ensures
