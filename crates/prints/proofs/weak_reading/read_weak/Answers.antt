use Rattle.prints.proofs.WeakTexts.{weak_found, weak_pips, weak_refused}
use Rattle.prints.proofs.weak_reading.read_weak.Goals as goal

pub returns-clause-found : goal.returns-clause-found
returns-clause-found c = weak_found c.args.bytes.now c.parts_in.result c.parts_in.ensures

pub returns-clause-no_pips : goal.returns-clause-no_pips
returns-clause-no_pips c = weak_pips c.args.bytes.now c.parts_in.result c.parts_in.ensures

pub returns-clause-none : goal.returns-clause-none
returns-clause-none c = weak_refused c.args.bytes.now c.parts_in.result c.parts_in.ensures
