use Rattle.prints.proofs.StrongTexts.{strong_found, strong_refused}
use Rattle.prints.proofs.strong_forms.read_strong.Goals as goal

pub returns-clause-found : goal.returns-clause-found
returns-clause-found c = strong_found c.args.bytes.now c.parts_in.result c.parts_in.ensures

pub returns-clause-none : goal.returns-clause-none
returns-clause-none c = strong_refused c.args.bytes.now c.parts_in.result c.parts_in.ensures
