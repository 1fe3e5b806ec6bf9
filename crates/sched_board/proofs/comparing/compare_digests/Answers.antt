use Rattle.sched_board.proofs.Comparisons.{ran_answer}
use Rattle.sched_board.proofs.comparing.compare_digests.Goals as goal

pub returns : goal.returns
returns c =
    ran_answer c.args.plan.now c.args.sources.now c.args.inputs.now c.args.pip c.in_ok-own.own _ c.in_ok-view.ensures c.args.ran.now c.unlike_run.result
    c.in_ok-own.ensures c.unlike_run.ensures
