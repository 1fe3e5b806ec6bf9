use Rattle.dscript_types_rows.proofs.Looked.{first_looked, none_looked}
use Rattle.dscript_types_rows.proofs.ambients.looked_first.Goals as goal

pub returns-in_default : goal.returns-in_default
returns-in_default c = none_looked c.args.given.items _ c.as_slice.ensures.value c.in_default.ensures.cases

pub returns : goal.returns
returns c =
    first_looked c.args.given.items _ c.as_slice.ensures.value _ _ _ c.in-Some.ensures.cases.0 c.in_ok-looked.ensures
