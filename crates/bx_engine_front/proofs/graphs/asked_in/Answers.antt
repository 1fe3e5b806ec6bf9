use Rattle.dscript_program.specs.Views.{program_data}
use Rattle.dscript_program.specs.Workspaces.{modules_of}
use Rattle.bx_engine_front.proofs.GraphPlans.{typed_program, untyped_passes}
use Rattle.bx_engine_front.proofs.Passes.{tree_refused}
use Rattle.bx_engine_front.proofs.graphs.asked_in.Goals as goal

pub evaluated_asked-requires-clause-program : goal.evaluated_asked-requires-clause-program
evaluated_asked-requires-clause-program c =
    (typed_program c.args.limits.now c.args.tree.now (modules_of c.args.work.now) c.args.typed c.in-Some.program c.in-Some.is c.requires.typed).0

pub evaluated_asked-requires-clause-types : goal.evaluated_asked-requires-clause-types
evaluated_asked-requires-clause-types c =
    (typed_program c.args.limits.now c.args.tree.now (modules_of c.args.work.now) c.args.typed c.in-Some.program c.in-Some.is c.requires.typed).1

pub evaluated_asked-requires-in-Ok-clause-types : goal.evaluated_asked-requires-in-Ok-clause-types
evaluated_asked-requires-in-Ok-clause-types c =
    untyped_passes c.args.limits.now c.args.tree.now (modules_of c.args.work.now) c.args.typed (program_data c.in-Ok.program) c.in-None.is c.requires.typed

pub returns-in-Err : goal.returns-in-Err
returns-in-Err c = tree_refused c.args.limits.now c.args.tree.now c.in-Err.fault c.file_refusal.result c.in-Err.ensures c.file_refusal.ensures
