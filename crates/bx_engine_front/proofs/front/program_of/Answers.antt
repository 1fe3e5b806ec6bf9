use Rattle.std.proofs.lemmas.Result.{MatchResult-weaker, err_from_is_err_and}
use Rattle.dscript_program.specs.Workspaces.{modules_of}
use Rattle.dscript_program.specs.Views.{program_data}
use Rattle.bx_engine_front.proofs.Passes.{some_program}
use Rattle.bx_engine_front.proofs.front.program_of.Goals as goal

pub returns-in_err-work : goal.returns-in_err-work
returns-in_err-work c =
    let p = err_from_is_err_and c.from_residual.result c.from_residual.ensures.1 in rw (p.1, p.2) c.in_err-work.ensures.found

pub returns : goal.returns
returns c =
    MatchResult-weaker c.program_in.result c.program_in.ensures
    (λ program is. some_program c.args.tree.now (modules_of c.in_ok-work.work) (program_data program) is)
    (λ fault is. is)
