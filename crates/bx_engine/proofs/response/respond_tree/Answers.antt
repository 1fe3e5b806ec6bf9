use Rattle.std.proofs.Common.{◌∙◌, Some, ap, arith, refl}
use Rattle.std.proofs.lemmas.Bool.{false≢true}
use Rattle.std.proofs.lemmas.Result.{IfOk-weaker}
use Rattle.bx_io.proofs.Changes.{keeps_all}
use Rattle.bx_engine_front.specs.StoreChanges.{StoreChange, change_of}
use Rattle.bx_engine.specs.Ends.{AreSources}
use Rattle.bx_engine.specs.Expected.{limits_of}
use Rattle.bx_engine.specs.Stores.{uses_graphs, uses_store}
use Rattle.bx_engine_words.specs.Words.{asks_graphs}
use Rattle.bx_engine.specs.declared.fault.InputFault.TheVariants.{Reserved}
use Rattle.bx_engine.proofs.ResponsesAreExpected.{build_not_refused, build_responds, fault_responds, input_responds}
use Rattle.bx_engine.proofs.GraphsOfCalls.{fair_tree, fault_has_tree, gone_has_tree, refuses_input, same_keeps, same_kept, same_leaves, tells_input, tree_keeps, tree_kept, tree_leaves}
use Rattle.bx_engine.proofs.StatusesDiffer.{gone_is}
use Rattle.bx_engine.proofs.StoresLeft.{keeps_same, left_of_plan, left_same, none_put}
use Rattle.bx_engine.proofs.response.respond_tree.Goals as goal

-- ## A reserved path

pub returns-then-reserved-clause-response : goal.returns-then-reserved-clause-response
returns-then-reserved-clause-response g c input bundle =
    IfOk-weaker c.refuse_input.result _ _
    (λ response h. input_responds c.args.order.now input _ _ Reserved response (c.args.tree, bundle, c.if-reserved.ensures.0 refl) h) c.refuse_input.ensures

pub returns-then-reserved-clause-kept : goal.returns-then-reserved-clause-kept
returns-then-reserved-clause-kept g c = IfOk-weaker c.refuse_input.result _ _ (λ response h refused. refl) c.refuse_input.ensures

pub returns-then-reserved-clause-left : goal.returns-then-reserved-clause-left
returns-then-reserved-clause-left g c input held bundle is honest fair =
    left_same (limits_of c.args.order.now) input held (g.K.Keeper.known c.args.keeper.now) (g.K.Keeper.known c.args.keeper.now) (keeps_all (g.K.Keeper.known c.args.keeper.now)) honest

-- ## A plan

pub build_plan-requires-clause-workers : goal.build_plan-requires-clause-workers
build_plan-requires-clause-workers g c =
    λ κs live.
    (omega (arith, c.workers_of.ensures, c.requires.crew.some), omega (arith, c.workers_of.ensures, c.requires.crew.few))

pub returns-in-Ok-clause-response : goal.returns-in-Ok-clause-response
returns-in-Ok-clause-response g c input bundle =
    let graphs : StoreChange =
    change_of (g.M.Keeper.known c.args.graphs.now) (g.M.Keeper.known c.plan_for.new.graphs) (g.M.Keeper.bound c.args.graphs.now)
    (g.M.Keeper.faults c.args.graphs.now) (g.M.Keeper.faults c.plan_for.new.graphs) in
    let sources : AreSources input c.args.tree = record { bundle = bundle; free = λ r. false≢true (c.if-reserved.ensures.1 r) } in
    IfOk-weaker c.build_plan.result _ _
    (λ response h.
    build_responds c.args.order.now input _ (Some graphs) c.args.tree c.in-Ok.planned.end.sources c.in-Ok.planned.end.plan.pips c.in-Ok.planned.end.plan.tool_budget c.is_cached.result c.workers_of.result c.in-Ok.planned.line response
    bundle (λ r. false≢true (c.if-reserved.ensures.1 r))
    (λ fair. c.in-Ok.ensures.plan (λ hit. fair_tree (uses_graphs c.args.order.now) (limits_of c.args.order.now) input c.args.tree graphs (fair hit) sources))
    c.in-Ok.ensures.rules
    (tells_input (asks_graphs c.args.order.now) (uses_store c.args.order.now) (limits_of c.args.order.now) input c.args.tree graphs c.in-Ok.planned.end.plan.pips c.in-Ok.planned.line sources
    c.in-Ok.ensures.line)
    c.in-Ok.ensures.sources c.in-Ok.ensures.tool_budget c.is_cached.ensures c.workers_of.ensures h)
    c.build_plan.ensures.response

pub returns-in-Ok-clause-kept : goal.returns-in-Ok-clause-kept
returns-in-Ok-clause-kept g c =
    IfOk-weaker c.build_plan.result _ _ (λ response h refused. absurd (build_not_refused _ _ _ _ _ _ _ response h refused)) c.build_plan.ensures.response

pub returns-in-Ok-clause-left : goal.returns-in-Ok-clause-left
returns-in-Ok-clause-left g c input held bundle is honest fair =
    let graphs : StoreChange =
    change_of (g.M.Keeper.known c.args.graphs.now) (g.M.Keeper.known c.plan_for.new.graphs) (g.M.Keeper.bound c.args.graphs.now)
    (g.M.Keeper.faults c.args.graphs.now) (g.M.Keeper.faults c.plan_for.new.graphs) in
    let sources : AreSources input c.args.tree = record { bundle = bundle; free = λ r. false≢true (c.if-reserved.ensures.1 r) } in
    left_of_plan (uses_store c.args.order.now) (limits_of c.args.order.now) input c.args.tree c.in-Ok.planned.end.sources c.in-Ok.planned.end.plan.pips
    c.in-Ok.planned.end.plan.tool_budget held (g.K.Keeper.known c.args.keeper.now) (g.K.Keeper.known c.build_plan.new.keeper) is honest fair.store
    sources
    (c.in-Ok.ensures.plan (λ hit. fair_tree (uses_graphs c.args.order.now) (limits_of c.args.order.now) input c.args.tree graphs fair.graph_store sources))
    c.in-Ok.ensures.sources c.in-Ok.ensures.tool_budget (c.build_plan.ensures.left held is)
    (λ off.
    keeps_same (g.K.Keeper.known c.args.keeper.now) (g.K.Keeper.known c.build_plan.new.keeper)
    (ap (λ k. g.K.Keeper.known k) (c.build_plan.ensures.untouched (c.is_cached.ensures ∙ off))))

pub returns-in-Ok-clause-graphs_left : goal.returns-in-Ok-clause-graphs_left
returns-in-Ok-clause-graphs_left g c input bundle fair =
    let graphs : StoreChange =
    change_of (g.M.Keeper.known c.args.graphs.now) (g.M.Keeper.known c.plan_for.new.graphs) (g.M.Keeper.bound c.args.graphs.now)
    (g.M.Keeper.faults c.args.graphs.now) (g.M.Keeper.faults c.plan_for.new.graphs) in
    tree_leaves (uses_graphs c.args.order.now) (limits_of c.args.order.now) input c.args.tree graphs
    (record { bundle = bundle; free = λ r. false≢true (c.if-reserved.ensures.1 r) }) c.plan_for.ensures.left
    (λ off. ap (λ k. g.M.Keeper.known k) (c.plan_for.ensures.untouched off)) fair

pub returns-in-Ok-clause-no_tree : goal.returns-in-Ok-clause-no_tree
returns-in-Ok-clause-no_tree g c =
    IfOk-weaker c.build_plan.result _ _
    (λ response h none. absurd (gone_has_tree response.status (gone_is response.status h.went.gone.verdicts h.went.status_is) none))
    c.build_plan.ensures.response

pub returns-in-Ok-clause-graph_puts : goal.returns-in-Ok-clause-graph_puts
returns-in-Ok-clause-graph_puts g c = tree_kept _ _ _ c.plan_for.ensures.left

-- ## No plan

pub returns-in-Err-clause-response : goal.returns-in-Err-clause-response
returns-in-Err-clause-response g c input bundle =
    let graphs : StoreChange =
    change_of (g.M.Keeper.known c.args.graphs.now) (g.M.Keeper.known c.plan_for.new.graphs) (g.M.Keeper.bound c.args.graphs.now)
    (g.M.Keeper.faults c.args.graphs.now) (g.M.Keeper.faults c.plan_for.new.graphs) in
    let sources : AreSources input c.args.tree = record { bundle = bundle; free = λ r. false≢true (c.if-reserved.ensures.1 r) } in
    IfOk-weaker c.refuse_fault.result _ _
    (λ response h.
    fault_responds c.args.order.now input _ (Some graphs) c.args.tree c.in-Err.fault response bundle (λ r. false≢true (c.if-reserved.ensures.1 r))
    (refuses_input (uses_graphs c.args.order.now) (limits_of c.args.order.now) input c.args.tree graphs c.in-Err.fault sources c.in-Err.ensures.fault) h)
    c.refuse_fault.ensures

pub returns-in-Err-clause-kept : goal.returns-in-Err-clause-kept
returns-in-Err-clause-kept g c = IfOk-weaker c.refuse_fault.result _ _ (λ response h refused. refl) c.refuse_fault.ensures

pub returns-in-Err-clause-left : goal.returns-in-Err-clause-left
returns-in-Err-clause-left g c input held bundle is honest fair =
    left_same (limits_of c.args.order.now) input held (g.K.Keeper.known c.args.keeper.now) (g.K.Keeper.known c.args.keeper.now) (keeps_all (g.K.Keeper.known c.args.keeper.now)) honest

pub returns-in-Err-clause-graphs_left : goal.returns-in-Err-clause-graphs_left
returns-in-Err-clause-graphs_left g c input bundle fair =
    let graphs : StoreChange =
    change_of (g.M.Keeper.known c.args.graphs.now) (g.M.Keeper.known c.plan_for.new.graphs) (g.M.Keeper.bound c.args.graphs.now)
    (g.M.Keeper.faults c.args.graphs.now) (g.M.Keeper.faults c.plan_for.new.graphs) in
    tree_leaves (uses_graphs c.args.order.now) (limits_of c.args.order.now) input c.args.tree graphs
    (record { bundle = bundle; free = λ r. false≢true (c.if-reserved.ensures.1 r) }) c.plan_for.ensures.left
    (λ off. ap (λ k. g.M.Keeper.known k) (c.plan_for.ensures.untouched off)) fair

pub returns-in-Err-clause-no_tree : goal.returns-in-Err-clause-no_tree
returns-in-Err-clause-no_tree g c =
    IfOk-weaker c.refuse_fault.result _ _
    (λ response h none. absurd (fault_has_tree c.in-Err.fault response h none)) c.refuse_fault.ensures

pub returns-in-Err-clause-graph_puts : goal.returns-in-Err-clause-graph_puts
returns-in-Err-clause-graph_puts g c = tree_kept _ _ _ c.plan_for.ensures.left

-- ## What is put

pub returns-in-Ok-clause-graphs_kept : goal.returns-in-Ok-clause-graphs_kept
returns-in-Ok-clause-graphs_kept g c input bundle =
    tree_keeps (limits_of c.args.order.now) input c.args.tree
    (change_of (g.M.Keeper.known c.args.graphs.now) (g.M.Keeper.known c.plan_for.new.graphs) (g.M.Keeper.bound c.args.graphs.now)
    (g.M.Keeper.faults c.args.graphs.now) (g.M.Keeper.faults c.plan_for.new.graphs))
    (record { bundle = bundle; free = λ r. false≢true (c.if-reserved.ensures.1 r) }) c.plan_for.ensures.left

pub returns-in-Err-clause-graphs_kept : goal.returns-in-Err-clause-graphs_kept
returns-in-Err-clause-graphs_kept g c input bundle =
    tree_keeps (limits_of c.args.order.now) input c.args.tree
    (change_of (g.M.Keeper.known c.args.graphs.now) (g.M.Keeper.known c.plan_for.new.graphs) (g.M.Keeper.bound c.args.graphs.now)
    (g.M.Keeper.faults c.args.graphs.now) (g.M.Keeper.faults c.plan_for.new.graphs))
    (record { bundle = bundle; free = λ r. false≢true (c.if-reserved.ensures.1 r) }) c.plan_for.ensures.left

pub returns-then-reserved-clause-graphs_kept : goal.returns-then-reserved-clause-graphs_kept
returns-then-reserved-clause-graphs_kept g c input bundle =
    same_keeps (g.M.Keeper.known c.args.graphs.now) (g.M.Keeper.bound c.args.graphs.now) (g.M.Keeper.faults c.args.graphs.now) (limits_of c.args.order.now) input

pub returns-then-reserved-clause-graphs_left : goal.returns-then-reserved-clause-graphs_left
returns-then-reserved-clause-graphs_left g c input bundle fair = same_leaves (g.M.Keeper.known c.args.graphs.now)

pub returns-then-reserved-clause-no_tree : goal.returns-then-reserved-clause-no_tree
returns-then-reserved-clause-no_tree g c = IfOk-weaker c.refuse_input.result _ _ (λ response h none. refl) c.refuse_input.ensures

pub returns-then-reserved-clause-graph_puts : goal.returns-then-reserved-clause-graph_puts
returns-then-reserved-clause-graph_puts g c = same_kept (g.M.Keeper.known c.args.graphs.now) (g.M.Keeper.bound c.args.graphs.now) (g.M.Keeper.faults c.args.graphs.now)

pub returns-then-reserved-clause-puts : goal.returns-then-reserved-clause-puts
returns-then-reserved-clause-puts g c = none_put (g.K.Keeper.known c.args.keeper.now) (g.K.Keeper.known c.args.keeper.now) (keeps_all (g.K.Keeper.known c.args.keeper.now))

pub returns-in-Err-clause-puts : goal.returns-in-Err-clause-puts
returns-in-Err-clause-puts g c = none_put (g.K.Keeper.known c.args.keeper.now) (g.K.Keeper.known c.args.keeper.now) (keeps_all (g.K.Keeper.known c.args.keeper.now))
