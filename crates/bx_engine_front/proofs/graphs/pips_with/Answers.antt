use Rattle.std.proofs.Common.{true, false, Ok, ap, sym, ◌∙◌, arith}
use Rattle.std.proofs.lemmas.Result.{err_from_is_err_and}
use Rattle.bx_io.proofs.Changes.{keeps_all}
use Rattle.dscript_program.specs.Workspaces.{modules_of}
use Rattle.bx_engine_front.specs.Faults.{IsRefused}
use Rattle.bx_engine_front.specs.Graphs.{typed_data}
use Rattle.bx_engine_front.specs.StoreChanges.{change_of}
use Rattle.bx_engine_front.specs.declared.graphs.Sourced.{Sourced}
use Rattle.bx_engine_front.proofs.GraphPlans.{evaluated_from, hit_from, left_after, none_found, unchanged_left}
use Rattle.bx_engine_front.proofs.Passes.{tree_refused}
use Rattle.bx_engine_front.proofs.graphs.pips_with.Goals as goal

pub returns-in-Err-clause-fault : goal.returns-in-Err-clause-fault
returns-in-Err-clause-fault g c =
    tree_refused c.args.limits.now c.args.tree.now c.in-Err.fault c.file_refusal.result c.in-Err.ensures.found c.file_refusal.ensures

pub returns-in-Err-clause-left : goal.returns-in-Err-clause-left
returns-in-Err-clause-left g c =
    unchanged_left c.args.limits.now c.args.tree.now
    (change_of (g.M.Keeper.known c.args.graphs.now) (g.M.Keeper.known c.args.graphs.now) (g.M.Keeper.bound c.args.graphs.now)
    (g.M.Keeper.faults c.args.graphs.now) (g.M.Keeper.faults c.args.graphs.now)) (keeps_all (g.M.Keeper.known c.args.graphs.now)) (omega arith)

pub returns-in_err-typed-clause-fault : goal.returns-in_err-typed-clause-fault
returns-in_err-typed-clause-fault g c =
    let p = err_from_is_err_and c.from_residual.result c.from_residual.ensures.1 in
    rw (p.1, p.2) c.in_err-typed.ensures

pub returns-in_err-typed-clause-left : goal.returns-in_err-typed-clause-left
returns-in_err-typed-clause-left g c =
    unchanged_left c.args.limits.now c.args.tree.now
    (change_of (g.M.Keeper.known c.args.graphs.now) (g.M.Keeper.known c.args.graphs.now) (g.M.Keeper.bound c.args.graphs.now)
    (g.M.Keeper.faults c.args.graphs.now) (g.M.Keeper.faults c.args.graphs.now)) (keeps_all (g.M.Keeper.known c.args.graphs.now)) (omega arith)

pub returns-in_err-found-clause-left : goal.returns-in_err-found-clause-left
returns-in_err-found-clause-left g c =
    unchanged_left c.args.limits.now c.args.tree.now
    (change_of (g.M.Keeper.known c.args.graphs.now) (g.M.Keeper.known c.look_up.new.graphs) (g.M.Keeper.bound c.args.graphs.now)
    (g.M.Keeper.faults c.args.graphs.now) (g.M.Keeper.faults c.look_up.new.graphs))
    c.in_err-found.ensures.known (omega (arith, c.in_err-found.ensures.faults))

pub returns-in-Hit-clause-pips : goal.returns-in-Hit-clause-pips
returns-in-Hit-clause-pips g c =
    hit_from c.meaning_over_sources.ensures c.graphs_hit.ensures c.args.limits.now c.args.tree.now (modules_of c.in-Ok.work) (typed_data c.in_ok-typed.typed)
    (change_of (g.M.Keeper.known c.args.graphs.now) (g.M.Keeper.known c.look_up.new.graphs) (g.M.Keeper.bound c.args.graphs.now)
    (g.M.Keeper.faults c.args.graphs.now) (g.M.Keeper.faults c.look_up.new.graphs))
    c.in-Hit.pips c.workspace_of.ensures.tree c.in-Ok.ensures.found
    (c.in_ok-found.ensures.key (λ memory. let clash = sym c.in-Hit.is ∙ memory in cc)) c.in_ok-typed.ensures c.in_ok-found.ensures.known
    c.in_ok-found.ensures.faults (rw c.in-Hit.is at c.in_ok-found.ensures.found)

pub returns-in-Hit-clause-left : goal.returns-in-Hit-clause-left
returns-in-Hit-clause-left g c =
    unchanged_left c.args.limits.now c.args.tree.now
    (change_of (g.M.Keeper.known c.args.graphs.now) (g.M.Keeper.known c.look_up.new.graphs) (g.M.Keeper.bound c.args.graphs.now)
    (g.M.Keeper.faults c.args.graphs.now) (g.M.Keeper.faults c.look_up.new.graphs))
    c.in_ok-found.ensures.known (omega (arith, c.in_ok-found.ensures.faults))

pub returns-in-Miss-clause-pips : goal.returns-in-Miss-clause-pips
returns-in-Miss-clause-pips g c =
    evaluated_from c.args.limits.now c.args.tree.now (modules_of c.in-Ok.work) (g.M.Keeper.known c.args.graphs.now) (g.M.Keeper.known c.look_up.new.graphs)
    (g.M.Keeper.known c.evaluated_kept.new.graphs) (g.M.Keeper.bound c.args.graphs.now) (g.M.Keeper.bound c.look_up.new.graphs)
    (g.M.Keeper.faults c.args.graphs.now) (g.M.Keeper.faults c.look_up.new.graphs) (g.M.Keeper.faults c.evaluated_kept.new.graphs) false
    (λ (s : Sourced). s.pips) (λ (s : Sourced). s.line) (IsRefused c.args.limits.now c.args.tree.now) c.evaluated_kept.result
    c.in-Ok.ensures.found c.in_ok-found.ensures.known (sym c.in_ok-found.ensures.faults) c.evaluated_kept.ensures.left.only
    (λ clash. absurd cc)
    (none_found c.args.limits.now c.args.tree.now (modules_of c.in-Ok.work) (g.M.Keeper.known c.args.graphs.now)
    (g.M.Keeper.known c.look_up.new.graphs) (rw c.in-Miss.is at c.in_ok-found.ensures.found))
    c.evaluated_kept.ensures.pips c.evaluated_kept.ensures.line

pub returns-in-Miss-clause-left : goal.returns-in-Miss-clause-left
returns-in-Miss-clause-left g c =
    left_after c.args.limits.now c.args.tree.now (g.M.Keeper.known c.args.graphs.now) (g.M.Keeper.known c.look_up.new.graphs)
    (g.M.Keeper.known c.evaluated_kept.new.graphs) (g.M.Keeper.bound c.args.graphs.now) (g.M.Keeper.bound c.look_up.new.graphs)
    (g.M.Keeper.faults c.args.graphs.now) (g.M.Keeper.faults c.look_up.new.graphs) (g.M.Keeper.faults c.evaluated_kept.new.graphs)
    c.in_ok-found.ensures.known (sym c.in_ok-found.ensures.faults) c.evaluated_kept.ensures.left

pub returns-in-Fault-clause-pips : goal.returns-in-Fault-clause-pips
returns-in-Fault-clause-pips g c =
    evaluated_from c.args.limits.now c.args.tree.now (modules_of c.in-Ok.work) (g.M.Keeper.known c.args.graphs.now) (g.M.Keeper.known c.look_up.new.graphs)
    (g.M.Keeper.known c.evaluated_kept-in-Fault.new.graphs) (g.M.Keeper.bound c.args.graphs.now) (g.M.Keeper.bound c.look_up.new.graphs)
    (g.M.Keeper.faults c.args.graphs.now) (g.M.Keeper.faults c.look_up.new.graphs) (g.M.Keeper.faults c.evaluated_kept-in-Fault.new.graphs) true
    (λ (s : Sourced). s.pips) (λ (s : Sourced). s.line) (IsRefused c.args.limits.now c.args.tree.now) c.evaluated_kept-in-Fault.result
    c.in-Ok.ensures.found c.in_ok-found.ensures.known (sym c.in_ok-found.ensures.faults) c.evaluated_kept-in-Fault.ensures.left.only
    (λ yes none. c.look_up.ensures.cause (c.in_ok-found.was ∙ ap Ok c.in-Fault.is) none)
    (λ clash. absurd cc)
    c.evaluated_kept-in-Fault.ensures.pips c.evaluated_kept-in-Fault.ensures.line

pub returns-in-Fault-clause-left : goal.returns-in-Fault-clause-left
returns-in-Fault-clause-left g c =
    left_after c.args.limits.now c.args.tree.now (g.M.Keeper.known c.args.graphs.now) (g.M.Keeper.known c.look_up.new.graphs)
    (g.M.Keeper.known c.evaluated_kept-in-Fault.new.graphs) (g.M.Keeper.bound c.args.graphs.now) (g.M.Keeper.bound c.look_up.new.graphs)
    (g.M.Keeper.faults c.args.graphs.now) (g.M.Keeper.faults c.look_up.new.graphs) (g.M.Keeper.faults c.evaluated_kept-in-Fault.new.graphs)
    c.in_ok-found.ensures.known (sym c.in_ok-found.ensures.faults) c.evaluated_kept-in-Fault.ensures.left

pub returns-clause-left : goal.returns-clause-left
returns-clause-left g c =
    unchanged_left c.args.limits.now c.args.tree.now
    (change_of (g.M.Keeper.known c.args.graphs.now) (g.M.Keeper.known c.look_up.new.graphs) (g.M.Keeper.bound c.args.graphs.now)
    (g.M.Keeper.faults c.args.graphs.now) (g.M.Keeper.faults c.look_up.new.graphs))
    c.in_ok-found.ensures.known (omega (arith, c.in_ok-found.ensures.faults))
