use Rattle.std.proofs.Common.{◌∙◌, List, map, ap, subst, sym}
use Rattle.observed.specs.declared.access.Access.{Access}
use Rattle.tool_run.specs.Described.{described}
use Rattle.tool_run.specs.Run.{path_set}
use Rattle.tool_run.specs.Seen.{seen}
use Rattle.run_record.specs.Answered.{given_in}
use Rattle.run_record.specs.Facts.{Facts, IsRun, Sound}
use Rattle.run_record.specs.Traces.{TraceData, facts_of}
use Rattle.run_record.proofs.Stored.{made_run, sound, with_own}
use Rattle.run_record.proofs.record.run_parts.Goals as goal

pub invariant_of-result : goal.invariant_of-result
invariant_of-result g c =
    let d = c.args.desc in
    let a = g.V.View.answers c.args.view.now in
    let r = seen c.in_ok-ran.ran in
    let o = c.in_ok-outcome.outcome in
    let made =
    made_run d a r c.in_ok-paths.paths c.in_ok-answers.answers.items o
    (c.accesses_hold.ensures (described d) a) c.in_ok-ran.ensures.ran
    (c.in_ok-paths.ensures ∙ ap (path_set (described d)) c.deref.ensures.value)
    (c.in_ok-answers.ensures ∙ ap (λ (xs : List Access). map (given_in xs) c.asks.result.now) c.deref-2.ensures.value ∙ ap (map (given_in r.accesses)) c.asks.ensures.asks)
    c.in_ok-outcome.ensures in
    let holds = sound _ d a (c.noninterference.ensures (described d)) made in
    subst (λ (t : TraceData). Sound (facts_of d t o)) (sym c.in_ok-trace.ensures) (with_own Sound _ holds holds)

pub returns-clause-ran : goal.returns-clause-ran
returns-clause-ran g c =
    let d = c.args.desc in
    let a = g.V.View.answers c.args.view.now in
    let r = seen c.in_ok-ran.ran in
    let o = c.in_ok-outcome.outcome in
    let made =
    made_run d a r c.in_ok-paths.paths c.in_ok-answers.answers.items o
    (c.accesses_hold.ensures (described d) a) c.in_ok-ran.ensures.ran
    (c.in_ok-paths.ensures ∙ ap (path_set (described d)) c.deref.ensures.value)
    (c.in_ok-answers.ensures ∙ ap (λ (xs : List Access). map (given_in xs) c.asks.result.now) c.deref-2.ensures.value ∙ ap (map (given_in r.accesses)) c.asks.ensures.asks)
    c.in_ok-outcome.ensures in
    let holds = sound _ d a (c.noninterference.ensures (described d)) made in
    subst (λ (t : TraceData). IsRun (facts_of d t o) d a) (sym c.in_ok-trace.ensures) (with_own (λ (f : Facts). IsRun f d a) _ holds made)
