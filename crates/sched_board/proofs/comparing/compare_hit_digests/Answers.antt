use Rattle.sched_board.proofs.Comparisons.{hit_answer}
use Rattle.sched_board.proofs.comparing.compare_hit_digests.Goals as goal

pub returns : goal.returns
returns c =
    hit_answer c.args.plan.now c.args.sources.now c.args.inputs.now c.args.pip c.in_ok-own.own _ c.in_ok-view.ensures c.args.found.now c.unlike_hit.result
    c.in_ok-own.ensures c.unlike_hit.ensures
