use Rattle.dscript_program.specs.Views.{program_data}
use Rattle.bx_engine_front.proofs.Passes.{program_refused}
use Rattle.bx_engine_front.proofs.front.evaluated.Goals as goal

pub returns-in-Ok : goal.returns-in-Ok
returns-in-Ok c = record {
  program = program_data c.args.program.now;
  is_program = c.requires.program;
  types = c.requires.types;
  evaluates = c.in-Ok.ensures.pips;
}

pub returns-in-Err : goal.returns-in-Err
returns-in-Err c =
    program_refused c.args.limits.now c.args.tree.now (program_data c.args.program.now) c.in-Err.fault c.evaluation_refusal.result c.requires.program
    c.requires.types c.in-Err.ensures.fault c.evaluation_refusal.ensures
