use Rattle.std.proofs.Common.{◌≡◌, length, subst, sym, ◌∙◌}
use Rattle.std.specs.Prelude.{IfOk, IsSome, Some}
use Rattle.bx_io.specs.Holdings.{Holdings, held_in}
use Rattle.bx_tree.specs.Trees.{Files}
use Rattle.graph_check.specs.Rules.{KeepsRules}
use Rattle.pip_model.specs.Plans.{PlanData}
use Rattle.bx_io.proofs.Changes.{keeps_all}
use Rattle.retire.specs.Builds.{IsFair, LeavesFair}
use Rattle.retire.proofs.Whole.{leaves_same}
use Rattle.bx_engine.specs.Calls.{StoreChange, change_of}
use Rattle.bx_engine.specs.Responses.{IsBuildResponse}
use Rattle.bx_engine.proofs.response.build_plan.Goals as goal

pub collect-response-requires-clause-rules : goal.collect-response-requires-clause-rules
collect-response-requires-clause-rules g c =
    λ κs live.
    let plan : c.deref.result.now ≡ c.args.plan = c.deref.ensures ∙ c.in_ok-plans.ensures.ok in
    let files : c.deref-2.result.now ≡ c.args.sources = c.deref-2.ensures ∙ c.in_ok-files.ensures.ok in
    subst (λ (p : PlanData). KeepsRules p.pips c.deref-2.result.now) (sym plan)
    (subst (λ (t : Files). KeepsRules c.args.plan.pips t) (sym files) c.requires.rules)

pub collect-response-requires-clause-slots : goal.collect-response-requires-clause-slots
collect-response-requires-clause-slots g c =
    λ κs live.
    subst (λ (p : PlanData). length c.in_ok-crewed.crewed.finished.slots.items ≡ length p.pips) (sym c.deref.ensures) c.in_ok-crewed.ensures.slots

pub returns-clause-response : goal.returns-clause-response
returns-clause-response g c =
    let plan : c.deref.result.now ≡ c.args.plan = c.deref.ensures ∙ c.in_ok-plans.ensures.ok in
    let files : c.deref-2.result.now ≡ c.args.sources = c.deref-2.ensures ∙ c.in_ok-files.ensures.ok in
    let change : StoreChange =
    change_of (g.K.Keeper.known c.args.keeper.now) (g.K.Keeper.known c.collect-response.new.keeper) (g.K.Keeper.bound c.args.keeper.now)
    (g.K.Keeper.faults c.args.keeper.now) (g.K.Keeper.faults c.collect-response.new.keeper) in
    subst (λ (p : PlanData). IfOk c.collect-response.result (IsBuildResponse p.pips c.args.sources p.tool_budget c.args.cached c.args.workers change c.args.line)) plan
    (subst (λ (t : Files). IfOk c.collect-response.result (IsBuildResponse c.deref.result.now.pips t c.deref.result.now.tool_budget c.args.cached c.args.workers change c.args.line)) files
    (c.collect-response.ensures.response c.args.workers c.in_ok-crewed.ensures.through))

pub returns-clause-left : goal.returns-clause-left
returns-clause-left g c =
    λ held is there fair.
    let plan : c.deref.result.now ≡ c.args.plan = c.deref.ensures ∙ c.in_ok-plans.ensures.ok in
    let files : c.deref-2.result.now ≡ c.args.sources = c.deref-2.ensures ∙ c.in_ok-files.ensures.ok in
    let before = g.K.Keeper.known c.args.keeper.now in
    let after = g.K.Keeper.known c.collect-response.new.keeper in
    let here : IsFair c.deref.result.now.pips c.deref-2.result.now c.deref.result.now.tool_budget held =
    subst (λ (p : PlanData). IsFair p.pips c.deref-2.result.now p.tool_budget held) (sym plan)
    (subst (λ (t : Files). IsFair c.args.plan.pips t c.args.plan.tool_budget held) (sym files) fair) in
    subst (λ (p : PlanData). LeavesFair p.pips c.args.sources p.tool_budget held before after) plan
    (subst (λ (t : Files). LeavesFair c.deref.result.now.pips t c.deref.result.now.tool_budget held before after) files
    (c.collect-response.ensures.left held is there here))

pub returns-in_err-plans-clause-left : goal.returns-in_err-plans-clause-left
returns-in_err-plans-clause-left g c =
    λ held is there fair.
    let known = g.K.Keeper.known c.args.keeper.now in
    leaves_same c.args.plan.pips c.args.sources c.args.plan.tool_budget held known known is (keeps_all known) fair

pub returns-in_err-files-clause-left : goal.returns-in_err-files-clause-left
returns-in_err-files-clause-left g c =
    λ held is there fair.
    let known = g.K.Keeper.known c.args.keeper.now in
    leaves_same c.args.plan.pips c.args.sources c.args.plan.tool_budget held known known is (keeps_all known) fair

pub returns-in_err-crewed-clause-left : goal.returns-in_err-crewed-clause-left
returns-in_err-crewed-clause-left g c =
    λ held is there fair.
    let known = g.K.Keeper.known c.args.keeper.now in
    leaves_same c.args.plan.pips c.args.sources c.args.plan.tool_budget held known known is (keeps_all known) fair
