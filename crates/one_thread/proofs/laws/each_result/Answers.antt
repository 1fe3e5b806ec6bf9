use Rattle.one_thread.proofs.EachResult.{number_of_results, result_of_all}
use Rattle.one_thread.proofs.laws.each_result.Goals as goal

pub returns-clause-number : goal.returns-clause-number
returns-clause-number c = number_of_results

pub returns-clause-result : goal.returns-clause-result
returns-clause-result c = result_of_all
