use Rattle.std.proofs.Common.{List, inl, inr, subst, sym}
use Rattle.std.proofs.lemmas.Result.{err_from_is_err_and}
use Rattle.pip_model_types.specs.declared.pip.Pip.{Pip}
use Rattle.bx_engine_front.specs.Graphs.{TellsGraphs}
use Rattle.bx_engine_front.specs.StoreChanges.{change_of}
use Rattle.bx_engine_front.proofs.graphs.plan_with_graphs.Goals as goal

pub returns-in_err-sourced-clause-fault : goal.returns-in_err-sourced-clause-fault
returns-in_err-sourced-clause-fault g c =
    let p = err_from_is_err_and c.from_residual.result c.from_residual.ensures.1 in
    rw (p.1, p.2) (inl c.in_err-sourced.ensures.fault)

pub returns-in_err-end-clause-fault : goal.returns-in_err-end-clause-fault
returns-in_err-end-clause-fault g c =
    let p = err_from_is_err_and c.from_residual-in_err-end.result c.from_residual-in_err-end.ensures.1 in
    rw (p.1, p.2)
    (inr (c.in_err-end.ensures.fault, λ fair. c.in_err-end.ensures.plan (c.in_ok-sourced.ensures.pips.makes (λ hit. fair))))

pub returns-clause-plan : goal.returns-clause-plan
returns-clause-plan g c = λ fair. c.in_ok-end.ensures.plan (c.in_ok-sourced.ensures.pips.makes fair)

pub returns-clause-line : goal.returns-clause-line
returns-clause-line g c =
    subst
    (λ (ps : List Pip). TellsGraphs c.args.limits.now c.args.tree
    (change_of (g.M.Keeper.known c.args.graphs.now) (g.M.Keeper.known c.pips_with.new.graphs) (g.M.Keeper.bound c.args.graphs.now)
    (g.M.Keeper.faults c.args.graphs.now) (g.M.Keeper.faults c.pips_with.new.graphs)) ps c.in_ok-sourced.sourced.line)
    (sym c.in_ok-end.ensures.pips) c.in_ok-sourced.ensures.pips.tells
