use Rattle.std.proofs.Common.{◌≡◌, Some}
use Rattle.std.specs.Prelude.{is_some, slice_get}
use Rattle.std.proofs.lemmas.Result.{IfOk-weaker}
use Rattle.bx_io.specs.Holdings.{Holdings}
use Rattle.pip_model_types.specs.declared.desc.Desc.{Desc}
use Rattle.observed.specs.declared.ask.Ask.{Ask}
use Rattle.observed.specs.declared.access.Answer.{Answer}
use Rattle.pip_view_inputs.specs.Plain.{process_in}
use Rattle.pip_view.specs.Sees.{sees}
use Rattle.retire.specs.Over.{TakesOver, no_slot}
use Rattle.build_misses.specs.Going.{outcome_in, reason_in}
use Rattle.build_misses.specs.Reasoned.{WhyAt}
use Rattle.build_misses.proofs.Decisions.{takes_in}
use Rattle.build_misses.proofs.taking.taken_for.Goals as goal

pub returns-clause-taken : goal.returns-clause-taken
returns-clause-taken g c =
    let pips = c.args.frame.now.plan.now.pips in
    let tree = c.args.frame.now.sources.now in
    IfOk-weaker c.take.result _ _
    (λ taken h. takes_in (process_in (slice_get pips c.args.pip)) tree c.args.inputs.now c.args.frame.now.plan.now.tool_budget c.in_ok-described.described
    (sees pips tree c.args.inputs.now c.args.pip) _
    (λ (x : Desc) (v : Ask → Answer). (S : Holdings) → g.R.KeepReader.held c.take.new.reader ≡ Some S → TakesOver S x v no_slot (outcome_in taken) (is_some (reason_in taken)))
    c.in_ok-described.ensures c.in_ok-view.ensures h)
    c.take.ensures.taken

pub returns-clause-reason : goal.returns-clause-reason
returns-clause-reason g c =
    let pips = c.args.frame.now.plan.now.pips in
    let tree = c.args.frame.now.sources.now in
    IfOk-weaker c.take.result _ _
    (λ taken h. takes_in (process_in (slice_get pips c.args.pip)) tree c.args.inputs.now c.args.frame.now.plan.now.tool_budget c.in_ok-described.described
    (sees pips tree c.args.inputs.now c.args.pip) _
    (λ (x : Desc) (v : Ask → Answer). (S : Holdings) → g.R.KeepReader.held c.take.new.reader ≡ Some S → WhyAt S x v (reason_in taken))
    c.in_ok-described.ensures c.in_ok-view.ensures h)
    c.take.ensures.reason
