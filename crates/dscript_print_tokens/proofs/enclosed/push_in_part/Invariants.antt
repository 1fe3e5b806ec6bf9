use Rattle.std.proofs.Common.{◌≡◌, ◌++◌, length}
use Rattle.dscript_print_tokens.specs.Spellings.{in_part}
use Rattle.dscript_print_tokens.proofs.enclosed.push_in_part.Given as goal

abbrev pub invariant-bytes : goal.invariant-bytes
invariant-bytes l = l.text.items ++ in_part l.left ≡ l.fn.text.items ++ in_part l.fn.value

abbrev pub decreases-bytes : goal.decreases-bytes
decreases-bytes l = length l.left
