use Rattle.graph_check_outputs.proofs.Prefixes.{none_at}
use Rattle.graph_check_outputs.proofs.overlap.overlap_among.Goals as goal

pub returns-else-branch : goal.returns-else-branch
returns-else-branch c = none_at c.args.pips.now (λ h. let t = c.in_ok-has_overlap.ensures.1 h in let f = c.if-branch.false in cc)
