use Rattle.dscript_names.specs.Named.{named}
use Rattle.dscript_names.proofs.SomeMeaning.{ok_or_err}
use Rattle.dscript_names.proofs.laws.some_meaning.Goals as goal

pub returns : goal.returns
returns c modules files = ok_or_err (named modules files)
