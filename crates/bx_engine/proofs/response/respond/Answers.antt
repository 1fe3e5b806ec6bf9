use Rattle.std.proofs.Common.{refl}
use Rattle.std.proofs.lemmas.Result.{IfOk-weaker}
use Rattle.bx_io.proofs.Changes.{keeps_all}
use Rattle.bx_engine.specs.Expected.{limits_of}
use Rattle.bx_engine.proofs.ResponsesAreExpected.{bundle_responds}
use Rattle.bx_engine.proofs.GraphsOfCalls.{same_keeps, same_kept, same_leaves}
use Rattle.bx_engine.proofs.StoresLeft.{left_same, none_put}
use Rattle.bx_engine.proofs.response.respond.Goals as goal

pub returns-in-Ok-clause-response : goal.returns-in-Ok-clause-response
returns-in-Ok-clause-response g c = c.respond_tree.ensures.response c.args.input.now c.in-Ok.ensures

pub returns-in-Ok-clause-left : goal.returns-in-Ok-clause-left
returns-in-Ok-clause-left g c held is honest fair = c.respond_tree.ensures.left c.args.input.now held c.in-Ok.ensures is honest fair

pub returns-in-Err-clause-response : goal.returns-in-Err-clause-response
returns-in-Err-clause-response g c =
    IfOk-weaker c.refuse_bundle.result _ _
    (λ response h. bundle_responds c.args.order.now c.args.input.now _ _ c.in-Err.fault response c.in-Err.ensures h) c.refuse_bundle.ensures

pub returns-in-Err-clause-kept : goal.returns-in-Err-clause-kept
returns-in-Err-clause-kept g c = IfOk-weaker c.refuse_bundle.result _ _ (λ response h refused. refl) c.refuse_bundle.ensures

pub returns-in-Err-clause-left : goal.returns-in-Err-clause-left
returns-in-Err-clause-left g c held is honest fair =
    left_same (limits_of c.args.order.now) c.args.input.now held (g.K.Keeper.known c.args.keeper.now) (g.K.Keeper.known c.args.keeper.now) (keeps_all (g.K.Keeper.known c.args.keeper.now)) honest

pub returns-in-Err-clause-puts : goal.returns-in-Err-clause-puts
returns-in-Err-clause-puts g c = none_put (g.K.Keeper.known c.args.keeper.now) (g.K.Keeper.known c.args.keeper.now) (keeps_all (g.K.Keeper.known c.args.keeper.now))

pub returns-in-Ok-clause-graphs_kept : goal.returns-in-Ok-clause-graphs_kept
returns-in-Ok-clause-graphs_kept g c = c.respond_tree.ensures.graphs_kept c.args.input.now c.in-Ok.ensures

pub returns-in-Err-clause-graphs_kept : goal.returns-in-Err-clause-graphs_kept
returns-in-Err-clause-graphs_kept g c =
    same_keeps (g.M.Keeper.known c.args.graphs.now) (g.M.Keeper.bound c.args.graphs.now) (g.M.Keeper.faults c.args.graphs.now) (limits_of c.args.order.now)
    c.args.input.now

pub returns-in-Ok-clause-graphs_left : goal.returns-in-Ok-clause-graphs_left
returns-in-Ok-clause-graphs_left g c fair = c.respond_tree.ensures.graphs_left c.args.input.now c.in-Ok.ensures fair

pub returns-in-Err-clause-no_tree : goal.returns-in-Err-clause-no_tree
returns-in-Err-clause-no_tree g c = IfOk-weaker c.refuse_bundle.result _ _ (λ response h refused. refl) c.refuse_bundle.ensures

pub returns-in-Err-clause-graphs_left : goal.returns-in-Err-clause-graphs_left
returns-in-Err-clause-graphs_left g c fair = same_leaves (g.M.Keeper.known c.args.graphs.now)

pub returns-in-Err-clause-graph_puts : goal.returns-in-Err-clause-graph_puts
returns-in-Err-clause-graph_puts g c = same_kept (g.M.Keeper.known c.args.graphs.now) (g.M.Keeper.bound c.args.graphs.now) (g.M.Keeper.faults c.args.graphs.now)
