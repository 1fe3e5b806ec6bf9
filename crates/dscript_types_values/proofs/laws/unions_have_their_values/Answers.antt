use Rattle.dscript_types_values.proofs.Joining.{has_left, has_right, join_has}
use Rattle.dscript_types_values.proofs.laws.unions_have_their_values.Goals as goal

pub returns : goal.returns
returns c = record { left = has_left; right = has_right; one = join_has }
