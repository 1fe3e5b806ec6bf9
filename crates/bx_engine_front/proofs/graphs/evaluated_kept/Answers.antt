use Rattle.std.proofs.Common.{Ok, ap, arith}
use Rattle.std.proofs.lemmas.Result.{err_from_is_err_and}
use Rattle.bx_io.proofs.Changes.{keeps_all}
use Rattle.dscript_program.specs.Workspaces.{modules_of}
use Rattle.graph_memo.specs.Keeping.{made_by}
use Rattle.bx_engine_front.specs.Graphs.{work_in}
use Rattle.bx_engine_front.specs.StoreChanges.{change_of}
use Rattle.bx_engine_front.proofs.GraphPlans.{evaluated_tells, kept_left, kept_whole, made_pips, unchanged_left}
use Rattle.bx_engine_front.proofs.graphs.evaluated_kept.Goals as goal

pub returns-in_err-asked-clause-pips : goal.returns-in_err-asked-clause-pips
returns-in_err-asked-clause-pips g c =
    let p = err_from_is_err_and c.from_residual.result c.from_residual.ensures.1 in
    rw (p.1, p.2) c.in_err-asked.ensures

pub returns-in_err-asked-clause-left : goal.returns-in_err-asked-clause-left
returns-in_err-asked-clause-left g c =
    unchanged_left c.args.limits.now c.args.tree.now
    (change_of (g.M.Keeper.known c.args.graphs.now) (g.M.Keeper.known c.args.graphs.now) (g.M.Keeper.bound c.args.graphs.now)
    (g.M.Keeper.faults c.args.graphs.now) (g.M.Keeper.faults c.args.graphs.now)) (keeps_all (g.M.Keeper.known c.args.graphs.now)) (omega arith)

pub returns-in_err-kept-clause-left : goal.returns-in_err-kept-clause-left
returns-in_err-kept-clause-left g c =
    kept_left c.keeps_stay_honest.ensures c.args.limits.now c.args.tree.now (modules_of c.args.work.now)
    (change_of (g.M.Keeper.known c.args.graphs.now) (g.M.Keeper.known c.keep.new.graphs) (g.M.Keeper.bound c.args.graphs.now)
    (g.M.Keeper.faults c.args.graphs.now) (g.M.Keeper.faults c.keep.new.graphs)) (made_by c.in_ok-asked.asked) c.requires.tree c.requires.found c.requires.key
    c.in_ok-asked.ensures c.in_err-kept.ensures.first c.in_err-kept.ensures.keeper.cause.later

pub returns-clause-pips : goal.returns-clause-pips
returns-clause-pips g c =
    made_pips c.meaning_over_sources.ensures c.args.limits.now c.args.tree.now (modules_of c.args.work.now) (made_by c.in_ok-asked.asked) c.requires.found c.in_ok-asked.ensures

pub returns-clause-line : goal.returns-clause-line
returns-clause-line g c =
    evaluated_tells c.kept_is_usable.ensures (work_in c.args.limits.now c.args.tree.now (modules_of c.args.work.now))
    (change_of (g.M.Keeper.known c.args.graphs.now) (g.M.Keeper.known c.keep.new.graphs) (g.M.Keeper.bound c.args.graphs.now)
    (g.M.Keeper.faults c.args.graphs.now) (g.M.Keeper.faults c.keep.new.graphs)) (made_by c.in_ok-asked.asked) c.args.failed c.in_ok-kept.kept
    c.line_if.result c.in_ok-asked.ensures.evaluates (λ is. c.in_ok-kept.ensures.kept (ap Ok is)) (λ is. c.in_ok-kept.ensures.keeper.cause.rose (ap Ok is))
    (λ is. c.in_ok-kept.ensures.keeper.no_fault (λ other. kept_whole c.in_ok-kept.kept is other)) c.line_if.ensures

pub returns-clause-left : goal.returns-clause-left
returns-clause-left g c =
    kept_left c.keeps_stay_honest.ensures c.args.limits.now c.args.tree.now (modules_of c.args.work.now)
    (change_of (g.M.Keeper.known c.args.graphs.now) (g.M.Keeper.known c.keep.new.graphs) (g.M.Keeper.bound c.args.graphs.now)
    (g.M.Keeper.faults c.args.graphs.now) (g.M.Keeper.faults c.keep.new.graphs)) (made_by c.in_ok-asked.asked) c.requires.tree c.requires.found c.requires.key
    c.in_ok-asked.ensures c.in_ok-kept.ensures.first c.in_ok-kept.ensures.keeper.cause.later
