use Rattle.bx_engine_front.proofs.Passes.{tree_refused}
use Rattle.bx_engine_front.proofs.front.pips_of.Goals as goal

pub returns-in-Err : goal.returns-in-Err
returns-in-Err c = tree_refused c.args.limits.now c.args.tree.now c.in-Err.fault c.file_refusal.result c.in-Err.ensures c.file_refusal.ensures
