use Rattle.bx_io.proofs.Changes.{makes_both, keeps_makes, prefix_of_first, prefix_of_next, names-after}
use Rattle.bx_io.proofs.laws.changes_in_order.Goals as goal

pub returns : goal.returns
returns c = record {
  joined = makes_both;
  kept = keeps_makes;
  cut_first = prefix_of_first;
  cut_next = prefix_of_next;
  names = names-after;
}
