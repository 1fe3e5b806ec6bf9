use Rattle.run_record.proofs.Differ.{one_answer}
use Rattle.run_record.proofs.matching_laws.one_match.Goals as goal

pub returns : goal.returns
returns c = one_answer
