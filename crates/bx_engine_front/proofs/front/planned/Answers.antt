use Rattle.std.proofs.Common.{List, subst, sym}
use Rattle.bx_tree.specs.Trees.{Files}
use Rattle.graph_check.specs.Rules.{IsRefusal, KeepsRules}
use Rattle.pip_model_types.specs.declared.pip.Pip.{Pip}
use Rattle.bx_engine_front.proofs.Passes.{of_rule, pips_refused, planned}
use Rattle.bx_engine_front.proofs.front.planned.Goals as goal

pub returns-in-Ok-clause-plan : goal.returns-in-Ok-clause-plan
returns-in-Ok-clause-plan c makes =
    planned c.args.limits.now c.args.tree c.args.pips c.in-Ok.plan.pips c.in_ok-sources.sources makes c.in_ok-sources.ensures
    c.in-Ok.ensures.pips c.in-Ok.ensures.rules

pub returns-in-Ok-clause-rules : goal.returns-in-Ok-clause-rules
returns-in-Ok-clause-rules c =
    subst (λ (pips : List Pip). KeepsRules pips c.in_ok-sources.sources) (sym c.in-Ok.ensures.pips) c.in-Ok.ensures.rules

pub returns-in-Err-clause-plan : goal.returns-in-Err-clause-plan
returns-in-Err-clause-plan c makes =
    pips_refused c.args.limits.now c.args.tree c.args.pips c.in-Err.fault c.graph_refusal.result makes
    (subst (λ (sources : Files). IsRefusal c.args.pips sources c.in-Err.fault) c.in_ok-sources.ensures c.in-Err.ensures.rules)
    c.graph_refusal.ensures

pub returns-in-Err-clause-fault : goal.returns-in-Err-clause-fault
returns-in-Err-clause-fault c = of_rule c.in-Err.fault c.graph_refusal.result c.graph_refusal.ensures
