use Rattle.std.proofs.Common.{◌≡◌, ◌++◌, length}
use Rattle.std.specs.List.{join_with_byte}
use Rattle.dscript_names_scopes.proofs.Joining.{joined_rest}
use Rattle.dscript_names_scopes.proofs.spaces.written.Given as goal

abbrev pub invariant-parts : goal.invariant-parts
invariant-parts l = l.text.items ++ joined_rest l.left ≡ join_with_byte 46 l.fn.name

abbrev pub decreases-parts : goal.decreases-parts
decreases-parts l = length l.left
