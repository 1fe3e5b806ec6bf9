use Rattle.dscript_eval_laws.proofs.FoundLocals.{as_many_held, begins_whole, found_is, keeps_whole}
use Rattle.dscript_eval_laws.proofs.laws.frames_have_their_locals.Goals as goal

pub returns-clause-found : goal.returns-clause-found
returns-clause-found c = found_is

pub returns-clause-begins : goal.returns-clause-begins
returns-clause-begins c = begins_whole

pub returns-clause-goes_on : goal.returns-clause-goes_on
returns-clause-goes_on c = keeps_whole

pub returns-clause-held : goal.returns-clause-held
returns-clause-held c = as_many_held
