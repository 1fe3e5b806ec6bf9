use Rattle.std.proofs.lemmas.Result.{err_from_is_err_and}
use Rattle.bx_engine_front.proofs.Passes.{refused_modules}
use Rattle.bx_engine_front.proofs.front.workspace_of.Goals as goal

pub returns-in_err-work-clause-found : goal.returns-in_err-work-clause-found
returns-in_err-work-clause-found c =
    let p = err_from_is_err_and c.from_residual.result c.from_residual.ensures.1 in
    rw (p.1, p.2) (refused_modules c.args.tree.now c.in_err-work.field-0.0 c.in_err-work.ensures)
