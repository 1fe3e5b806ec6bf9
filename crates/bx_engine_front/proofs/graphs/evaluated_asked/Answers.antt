use Rattle.dscript_program.specs.Views.{program_data}
use Rattle.dscript_program.specs.Workspaces.{modules_of}
use Rattle.graph_memo.specs.Keeping.{made_by}
use Rattle.bx_engine_front.proofs.GraphPlans.{evaluated_there}
use Rattle.bx_engine_front.proofs.Passes.{program_refused, some_program}
use Rattle.bx_engine_front.proofs.graphs.evaluated_asked.Goals as goal

pub returns-in-Ok : goal.returns-in-Ok
returns-in-Ok c =
    evaluated_there c.args.limits.now c.args.tree.now (modules_of c.args.work.now) (program_data c.args.program) (made_by c.in-Ok.asked)
    c.requires.program c.requires.types c.in-Ok.ensures.asked

pub returns-in-Err : goal.returns-in-Err
returns-in-Err c =
    program_refused c.args.limits.now c.args.tree.now (program_data c.args.program) c.in-Err.fault c.evaluation_refusal.result
    (some_program c.args.tree.now (modules_of c.args.work.now) (program_data c.args.program) c.requires.program)
    c.requires.types c.in-Err.ensures.fault c.evaluation_refusal.ensures
