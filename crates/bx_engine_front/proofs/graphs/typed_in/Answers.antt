use Rattle.dscript_program.specs.Views.{program_data}
use Rattle.dscript_program.specs.Workspaces.{modules_of}
use Rattle.bx_engine_front.proofs.Passes.{some_program, tree_refused}
use Rattle.bx_engine_front.proofs.graphs.typed_in.Goals as goal

pub checked-requires : goal.checked-requires
checked-requires c = some_program c.args.tree.now (modules_of c.args.work.now) (program_data c.in-Ok.program) c.in-Ok.ensures

pub returns-in-Err : goal.returns-in-Err
returns-in-Err c = tree_refused c.args.limits.now c.args.tree.now c.in-Err.fault c.file_refusal.result c.in-Err.ensures c.file_refusal.ensures
