use Rattle.std.proofs.Common.{◌∙◌, ap, subst, sym}
use Rattle.std.specs.Prelude.{slice_get}
use Rattle.std.proofs.lemmas.Result.{IfOk-weaker}
use Rattle.one_thread.specs.Starting.{StartsAs}
use Rattle.one_thread.specs.Views.{Agrees, ended_result}
use Rattle.one_thread.proofs.OnePip.{pip_there}
use Rattle.two_phase.specs.Reading.{ReadsIfAny}
use Rattle.two_phase.proofs.ReaderCalls.{none_read}
use Rattle.retire.specs.Counting.{one_fault}
use Rattle.retire.proofs.Decisions.{decide_done, decide_process}
use Rattle.retire.proofs.deciding.decide.Goals as goal

pub returns-in-Done-clause-decided : goal.returns-in-Done-clause-decided
returns-in-Done-clause-decided g c =
    let pips = c.args.frame.now.plan.now.pips in
    let tree = c.args.frame.now.sources.now in
    let budget = c.args.frame.now.plan.now.tool_budget in
    let pip = slice_get pips c.args.pip in
    let done = subst (StartsAs pips tree budget c.args.slots.now c.args.pip pip) c.in-Done.is c.in_ok-started.ensures in
    decide_done pips tree budget _ c.args.slot c.args.slots.now c.args.pip pip c.plainly.result
    (pip_there pips c.args.pip c.requires.pip) done.0 (ap ended_result c.plainly.ensures.ended ∙ done.1) c.plainly.ensures.way c.plainly.ensures.saved

pub returns-in-Done-clause-agrees : goal.returns-in-Done-clause-agrees
returns-in-Done-clause-agrees g c =
    let pips = c.args.frame.now.plan.now.pips in
    let done =
    subst (StartsAs pips c.args.frame.now.sources.now c.args.frame.now.plan.now.tool_budget c.args.slots.now c.args.pip (slice_get pips c.args.pip))
    c.in-Done.is c.in_ok-started.ensures in
    subst Agrees (sym c.plainly.ensures.ended) done.2

pub returns-in-Done-clause-reader : goal.returns-in-Done-clause-reader
returns-in-Done-clause-reader g c = subst (ReadsIfAny _ _) (sym (ap one_fault c.plainly.ensures.way)) (none_read _)

pub returns-in-Process-clause-decided : goal.returns-in-Process-clause-decided
returns-in-Process-clause-decided g c =
    let pips = c.args.frame.now.plan.now.pips in
    let tree = c.args.frame.now.sources.now in
    let budget = c.args.frame.now.plan.now.tool_budget in
    let pip = slice_get pips c.args.pip in
    let process = subst (StartsAs pips tree budget c.args.slots.now c.args.pip pip) c.in-Process.is c.in_ok-started.ensures in
    IfOk-weaker c.decide_process.result _ _
    (λ next h. decide_process pips tree budget _ c.args.slot c.args.slots.now c.args.pip pip c.in-Process.inputs next process.0 process.1 h)
    c.decide_process.ensures.decided
