use Rattle.bx_io_folder.proofs.Telling.{joined_on, told_alone, told_listed_on, told_made, told_on, told_refused}
use Rattle.bx_io_folder.proofs.laws.folder_tells_on.Goals as goal

pub returns-clause-answer : goal.returns-clause-answer
returns-clause-answer c = told_on

pub returns-clause-listed : goal.returns-clause-listed
returns-clause-listed c = told_listed_on

pub returns-clause-made : goal.returns-clause-made
returns-clause-made c = told_made

pub returns-clause-refused : goal.returns-clause-refused
returns-clause-refused c = told_refused

pub returns-clause-alone : goal.returns-clause-alone
returns-clause-alone c = told_alone

pub returns-clause-joined : goal.returns-clause-joined
returns-clause-joined c = joined_on
