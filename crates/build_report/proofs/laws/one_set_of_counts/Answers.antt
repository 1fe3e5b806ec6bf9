use Rattle.build_report.proofs.OneNotes.{one_set}
use Rattle.build_report.proofs.laws.one_set_of_counts.Goals as goal

pub returns : goal.returns
returns c = one_set
