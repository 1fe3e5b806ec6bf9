use Rattle.std.proofs.Common.{map}
use Rattle.std.proofs.lemmas.Result.{IfOk-weaker}
use Rattle.build_misses.specs.declared.finding.Miss.{Miss}
use Rattle.build_misses.proofs.finding.find_misses.Goals as goal

pub returns-clause-over : goal.returns-clause-over
returns-clause-over g c =
    IfOk-weaker c.go_through.result _ _
    (λ misses h. λ S told. c.reasoned_run.ensures c.args.plan.now.pips c.args.sources.now c.args.plan.now.tool_budget S misses.items (h S told))
    c.go_through.ensures.reasoned

pub returns-clause-fair : goal.returns-clause-fair
returns-clause-fair g c =
    IfOk-weaker c.go_through.result _ _
    (λ misses h. λ S told fair. c.fair_misses.ensures c.args.plan.now.pips c.args.sources.now c.args.plan.now.tool_budget S (map (λ (m : Miss). m.pip) misses.items) fair
    (c.reasoned_run.ensures c.args.plan.now.pips c.args.sources.now c.args.plan.now.tool_budget S misses.items (h S told)))
    c.go_through.ensures.reasoned
