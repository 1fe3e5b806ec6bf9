use Rattle.std.proofs.Common.{subst}
use Rattle.std.specs.Prelude.{slice_get}
use Rattle.one_thread.specs.Starting.{StartsAs}
use Rattle.one_thread.proofs.OnePip.{pip_there}
use Rattle.two_phase.proofs.Used.{ok_no_err, reads_none}
use Rattle.build_misses.proofs.Decisions.{ends_done, ends_given}
use Rattle.build_misses.proofs.finding.go_on.Goals as goal

pub returns-in-Done-clause-went : goal.returns-in-Done-clause-went
returns-in-Done-clause-went g c = λ S told.
    let pips = c.args.frame.now.plan.now.pips in
    let tree = c.args.frame.now.sources.now in
    let budget = c.args.frame.now.plan.now.tool_budget in
    let pip = slice_get pips c.args.pip in
    let done = subst (StartsAs pips tree budget c.args.slots.now c.args.pip pip) c.in-Done.is c.in_ok-started.ensures in
    ends_done pips tree budget S c.args.slots.now c.args.pip pip _ (pip_there pips c.args.pip c.requires.pip) done.0 done.1

pub returns-in-Done-clause-agrees : goal.returns-in-Done-clause-agrees
returns-in-Done-clause-agrees g c =
    let pips = c.args.frame.now.plan.now.pips in
    (subst (StartsAs pips c.args.frame.now.sources.now c.args.frame.now.plan.now.tool_budget c.args.slots.now c.args.pip (slice_get pips c.args.pip))
    c.in-Done.is c.in_ok-started.ensures).2

pub returns-in-Done-clause-reader : goal.returns-in-Done-clause-reader
returns-in-Done-clause-reader g c =
    reads_none (g.R.KeepReader.held c.args.reader.now) (g.R.KeepReader.bound c.args.reader.now) (g.R.KeepReader.faults c.args.reader.now) _ (ok_no_err _ _)

pub returns-in-Process-clause-went : goal.returns-in-Process-clause-went
returns-in-Process-clause-went g c =
    let pips = c.args.frame.now.plan.now.pips in
    let tree = c.args.frame.now.sources.now in
    let budget = c.args.frame.now.plan.now.tool_budget in
    let pip = slice_get pips c.args.pip in
    let process = subst (StartsAs pips tree budget c.args.slots.now c.args.pip pip) c.in-Process.is c.in_ok-started.ensures in
    ends_given pips tree budget (g.R.KeepReader.held c.go_process.new.reader) c.args.slots.now c.args.pip pip c.in-Process.inputs c.go_process.result process.0 process.1
    c.go_process.ensures.went c.go_process.ensures.reason
