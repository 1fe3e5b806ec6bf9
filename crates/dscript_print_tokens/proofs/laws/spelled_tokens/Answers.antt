use Rattle.dscript_print_tokens.proofs.Inverting.{writable}
use Rattle.dscript_print_tokens.proofs.Chosen.{has_spelling}
use Rattle.dscript_print_tokens.proofs.laws.spelled_tokens.Goals as goal

pub returns : goal.returns
returns c = λ is_in_hole kind. (writable is_in_hole kind, has_spelling is_in_hole kind)
