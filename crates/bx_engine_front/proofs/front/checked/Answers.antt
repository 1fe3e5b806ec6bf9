use Rattle.std.proofs.Common.{◌≡◌, rules, true}
use Rattle.dscript_program.specs.Views.{program_data}
use Rattle.bx_engine_front.proofs.Passes.{types_refused}
use Rattle.bx_engine_front.proofs.front.checked.Goals as goal

pub returns-in-Ok : goal.returns-in-Ok
returns-in-Ok c = λ asked. c.in-Ok.ensures.exact

pub returns-in-Err : goal.returns-in-Err
returns-in-Err c =
    let asked : c.args.limits.now.types ≡ true = search rules in
    types_refused c.args.limits.now c.args.tree.now (program_data c.args.program.now) c.in-Err.fault c.type_refusal.result asked
    c.requires c.in-Err.ensures.exact c.type_refusal.ensures
