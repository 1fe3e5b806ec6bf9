use Rattle.two_phase.proofs.Tried.{fault, hit, memory, miss}
use Rattle.two_phase.proofs.lookups.lookup_by.Goals as goal

pub returns-in-Ok-Some-clause-answer : goal.returns-in-Ok-Some-clause-answer
returns-in-Ok-Some-clause-answer g c =
    hit (g.R.KeepReader.held c.find_usable.new.reader) c.args.desc.now (g.V.View.answers c.args.view.now) c.in-Ok-Some.found (rw c.in-Ok-Some.field-0-is at c.in-Ok-Some.ensures.found)

pub returns-in-Ok-None-clause-answer : goal.returns-in-Ok-None-clause-answer
returns-in-Ok-None-clause-answer g c = miss (g.R.KeepReader.held c.find_usable.new.reader) c.args.desc.now (g.V.View.answers c.args.view.now) (rw c.in-Ok-None.field-0-is at c.in-Ok-None.ensures.found)

pub returns-in-Err-Fault-clause-answer : goal.returns-in-Err-Fault-clause-answer
returns-in-Err-Fault-clause-answer g c = fault (g.R.KeepReader.held c.find_usable.new.reader) c.args.desc.now (g.V.View.answers c.args.view.now)

pub returns-in-Err-Memory-clause-answer : goal.returns-in-Err-Memory-clause-answer
returns-in-Err-Memory-clause-answer g c = memory (g.R.KeepReader.held c.find_usable.new.reader) c.args.desc.now (g.V.View.answers c.args.view.now)
