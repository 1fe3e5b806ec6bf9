use Rattle.two_phase_meaning.proofs.Added.{contents_added, entries_added}
use Rattle.two_phase_meaning.proofs.laws.puts_add.Goals as goal

pub returns-clause-contents : goal.returns-clause-contents
returns-clause-contents c = contents_added

pub returns-clause-entries : goal.returns-clause-entries
returns-clause-entries c = entries_added
